use Rattle.std.proofs.Common.{◌≡◌, length}
use Rattle.symmetries.specs.NumberPairs.{swaps_in}
use Rattle.symmetries.specs.Lowest.{AreNoted, AreAllNeighbours}
use Rattle.symmetries.proofs.neighbours.neighbours.Given as goal

-- of the exchanges so far those that have an atom are noted, and the lowest that share one with each
abbrev pub invariant-loop-number : goal.invariant-loop-number
invariant-loop-number l = record {
  wide : length l.noted.items ≡ l.width;
  noted : AreNoted (swaps_in l.swaps) l.number l.noted.items;
  all : AreAllNeighbours (swaps_in l.swaps) l.all.items;
  each : length l.all.items ≡ l.number;
}
