use Rattle.std.proofs.Common.{map}
use Rattle.task.specs.TaskParts.{object_of}
use Rattle.grounding_instances.proofs.JoinGroups.{smaller-group}
use Rattle.grounding_instances.proofs.joins.Join.smallest_group.Goals as goal

pub loop-index-preserved : goal.loop-index-preserved
loop-index-preserved c =
    smaller-group c.deref-index-items.result.now c.args.self.now.indexes.items (map object_of c.args.binding.now.items) c.loop-index.smallest c.group.result c.smaller-smallest.result
    c.loop-index.index-index c.index-item.result c.deref-index-items.ensures.value c.loop-index-test.true c.index-item.is c.loop-index.invariant c.group.ensures c.smaller-smallest.ensures
