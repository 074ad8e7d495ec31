use Rattle.task.specs.Task.{task_of}
use Rattle.grounding_instances.proofs.JoinGroups.{indexes-more}
use Rattle.grounding_instances.proofs.joins.Join.of_literals.Goals as goal

pub loop-literal-preserved : goal.loop-literal-preserved
loop-literal-preserved c =
    indexes-more (task_of c.args.statics.now.task.now) c.args.number c.loop-literal.indexes.items c.add_indexes.new.indexes.items c.args.literals.now c.loop-literal.literal-index c.literal-item.result
    c.loop-literal-test.true c.literal-item.is c.in_ok-add_indexes.ensures c.loop-literal.invariant
