use Rattle.std.proofs.Common.{◌≤◌, length, map}
use Rattle.symmetries.specs.NumberPairs.{pair_of}
use Rattle.symmetries.specs.Lowest.{AreLowest}
use Rattle.symmetries.proofs.neighbours.neighbours_of.Given as goal

-- before each of those so far stand all below it, and all are listed that are below the next
abbrev pub invariant-lowest : goal.invariant-lowest
invariant-lowest l = record {
  room : length l.numbers.items ≤ l.counter;
  found : AreLowest l.noted (map pair_of l.pairs) l.number l.numbers.items l.from;
}
