use Rattle.std.proofs.Common.{◌≡◌, map, take}
use Rattle.symmetries.specs.NumberPairs.{pair_of}
use Rattle.symmetries.proofs.pairs.pairs_from.Given as goal

-- those so far are there
abbrev pub invariant-loop-lower : goal.invariant-loop-lower
invariant-loop-lower l = map pair_of l.pairs.items ≡ take l.lower-index l.numbers
