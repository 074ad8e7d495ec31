use Rattle.std.proofs.Common.{map}
use Rattle.task.specs.TaskParts.{atom_of}
use Rattle.grounding_instances.specs.Joins.{ArePlaced}
use Rattle.grounding_instances.proofs.joins.groups_of.Given as goal

abbrev pub invariant-loop : goal.invariant-loop
invariant-loop l = Unit {0}

-- the atoms so far have their objects in the groups
abbrev pub invariant-loop-atom : goal.invariant-loop-atom
invariant-loop-atom l = ArePlaced l.joint l.groups.items (map atom_of l.atom-items) l.atom-index
