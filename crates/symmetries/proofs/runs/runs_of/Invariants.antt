use Rattle.std.proofs.Common.{◌≡◌, map, take}
use Rattle.symmetries.specs.NumberPairs.{pair_of}
use Rattle.symmetries.specs.Runs.{pairs_in_all}
use Rattle.symmetries.proofs.runs.runs_of.Given as goal

-- the pairs so far are in the runs
abbrev pub invariant-loop-pair : goal.invariant-loop-pair
invariant-loop-pair l = pairs_in_all l.runs.items ≡ map pair_of (take l.pair-index l.pairs)
