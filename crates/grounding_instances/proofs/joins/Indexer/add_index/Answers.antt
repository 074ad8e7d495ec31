use Rattle.task.specs.Task.{task_of}
use Rattle.grounding_instances.proofs.JoinGroups.{index-added}
use Rattle.grounding_instances.proofs.joins.Indexer.add_index.Goals as goal

pub returns : goal.returns
returns c =
    index-added (task_of c.args.self.now.statics.now.task.now) c.args.self.now.number c.args.indexes.now.items c.push.new.self.items c.in_ok-index.index c.args.joint c.in_ok-push.ensures.items c.in_ok-index.ensures.joint
    c.requires c.in_ok-index.ensures.placed
