use Rattle.std.proofs.Common.{◌≡◌, length, map, ◌++◌}
use Rattle.std.specs.Option.{option_map}
use Rattle.task.specs.TaskParts.{object_of}
use Rattle.symmetries.specs.ObjectPairs.{pairs_in, two_by_two}
use Rattle.symmetries.proofs.exchange.pairs_of.Given as goal

-- the pairs so far, followed by those of the remaining objects
abbrev pub invariant-loop-left : goal.invariant-loop-left
invariant-loop-left l =
    option_map (λ later. pairs_in l.pairs.items ++ later) (two_by_two (map object_of l.left)) ≡ two_by_two (map object_of l.objects)

abbrev pub decreases-loop-left : goal.decreases-loop-left
decreases-loop-left l = length l.left
