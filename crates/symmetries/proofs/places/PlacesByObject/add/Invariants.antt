use Rattle.std.proofs.Common.{map, take}
use Rattle.task.specs.TaskParts.{object_of}
use Rattle.symmetries.specs.PlacesByObject.{IsAdded}
use Rattle.symmetries.proofs.places.PlacesByObject.add.Given as goal

-- the index is in the rows of the objects so far
abbrev pub invariant-loop-object : goal.invariant-loop-object
invariant-loop-object l = IsAdded l.place (map object_of (take l.object-index l.objects)) l.initial.self l.self
