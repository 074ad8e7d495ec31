use Rattle.task.specs.Task.{task_of}
use Rattle.task.specs.TaskParts.{formula_of, lifted_atom_of}
use Rattle.model.specs.Task as model_task
use Rattle.grounding_instances.proofs.JoinGroups.{adds-more}
use Rattle.grounding_instances.proofs.joins.Indexer.add_indexes.Goals as goal

pub loop-key-preserved : goal.loop-key-preserved
loop-key-preserved c =
    adds-more (task_of c.args.self.now.statics.now.task.now) c.args.self.now.number (formula_of c.args.literal.now) (model_task.atom (lifted_atom_of c.in-Some.joint.atom.now)) c.args.indexes.now.items
    c.loop-key.indexes.items c.add_keyed.new.indexes.items c.in-Some.ensures.literal c.loop-key.invariant c.in_ok-add_keyed.ensures

pub returns : goal.returns
returns c =
    adds-more (task_of c.args.self.now.statics.now.task.now) c.args.self.now.number (formula_of c.args.literal.now) (model_task.atom (lifted_atom_of c.in-Some.joint.atom.now)) c.args.indexes.now.items
    c.loop-key.indexes.items c.add_index.new.indexes.items c.in-Some.ensures.literal c.loop-key.invariant c.in_ok-add_index.ensures
