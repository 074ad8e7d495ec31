use Rattle.std.proofs.Common.{◌≡◌, true, map, take}
use Rattle.task.specs.TaskParts.{object_of}
use Rattle.symmetries_definitions.specs.Exchanges.{are_different}
use Rattle.symmetries.proofs.exchange.are_different.Given as goal

-- the set has the objects so far, which are different
abbrev pub invariant-loop-object : goal.invariant-loop-object
invariant-loop-object l = (l.seen.keys ≡ take l.object-index l.objects) × (are_different (map object_of (take l.object-index l.objects)) ≡ true)
