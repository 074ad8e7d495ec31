use Rattle.std.proofs.Common.{map, IfSome}
use Rattle.task.specs.TaskParts.{object_of}
use Rattle.grounding_instances.specs.Joins.{IsGroupAmong}
use Rattle.grounding_instances.proofs.joins.Join.smallest_group.Given as goal

-- the result so far is a group for the earlier objects
abbrev pub invariant-loop-index : goal.invariant-loop-index
invariant-loop-index l = IfSome l.smallest (λ group. IsGroupAmong l.self.indexes.items (map object_of l.binding.items) group.now)
