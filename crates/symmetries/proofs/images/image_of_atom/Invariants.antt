use Rattle.std.proofs.Common.{◌≡◌, length, map, take}
use Rattle.task.specs.TaskParts.{object_of}
use Rattle.symmetries.specs.Exchange.{image}
use Rattle.symmetries.proofs.images.image_of_atom.Given as goal

-- the images of the objects so far
abbrev pub invariant-loop-object : goal.invariant-loop-object
invariant-loop-object l =
    (length l.objects.items ≡ l.object-index)
    × (map object_of l.objects.items ≡ map (λ one. image l.exchange (object_of one)) (take l.object-index l.object-items))
