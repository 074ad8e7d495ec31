use Rattle.std.proofs.Common.{map}
use Rattle.task.specs.TaskParts.{atom_of}
use Rattle.symmetries.proofs.PlaceLemmas.{CoversBelow}
use Rattle.symmetries.proofs.places.PlacesByObject.of_atoms.Given as goal

-- the indices so far are found
abbrev pub invariant-loop-place : goal.invariant-loop-place
invariant-loop-place l = CoversBelow (map atom_of l.atoms) l.place l.places
