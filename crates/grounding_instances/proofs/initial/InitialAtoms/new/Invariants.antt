use Rattle.std.proofs.Common.{◌≡◌, map, take}
use Rattle.task.specs.TaskParts.{atom_of}
use Rattle.model.specs.Task as task
use Rattle.model.specs.NumberedAtoms.{occurs_in}
use Rattle.grounding_instances.proofs.initial.InitialAtoms.new.Given as goal

-- the atoms so far are there, and no others
abbrev pub invariant-loop-atom : goal.invariant-loop-atom
invariant-loop-atom l = (q : task.Atom) → occurs_in (map atom_of l.atoms.keys) q ≡ occurs_in (map atom_of (take l.atom-index l.atom-items)) q
