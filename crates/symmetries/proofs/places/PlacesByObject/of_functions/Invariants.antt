use Rattle.std.proofs.Common.{map}
use Rattle.task.specs.TaskParts.{value_of}
use Rattle.symmetries.specs.PlacesByObject.{functions_of}
use Rattle.symmetries.proofs.PlaceLemmas.{CoversBelow}
use Rattle.symmetries.proofs.places.PlacesByObject.of_functions.Given as goal

-- the indices so far are found
abbrev pub invariant-loop-place : goal.invariant-loop-place
invariant-loop-place l = CoversBelow (functions_of (map value_of l.values.entries)) l.place l.places
