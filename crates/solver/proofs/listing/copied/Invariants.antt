use Rattle.std.proofs.Common.{◌≡◌, map, take}
use Rattle.task.specs.TaskParts.{atom_of}
use Rattle.solver.proofs.listing.copied.Given as goal

-- the atoms so far
abbrev pub invariant-loop-atom : goal.invariant-loop-atom
invariant-loop-atom l = map atom_of l.copy.keys ≡ map atom_of (take l.atom-index l.atoms)
