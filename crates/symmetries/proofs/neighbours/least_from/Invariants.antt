use Rattle.std.proofs.Common.{◌≡◌, ◌≤◌, ℕ, true, map, take}
use Rattle.symmetries.specs.NumberPairs.{pair_of}
use Rattle.symmetries.specs.Apart.{is_in}
use Rattle.symmetries.specs.Lowest.{may_move_at}
use Rattle.symmetries.proofs.neighbours.least_from.Given as goal

-- it is at most the number, and what is noted of the pairs so far, from the start on
abbrev pub invariant-loop-pair : goal.invariant-loop-pair
invariant-loop-pair l = record {
  most : l.least ≤ l.number;
  least : (atom n : ℕ) → is_in (map pair_of (take l.pair-index l.pairs)) atom ≡ true → may_move_at l.noted atom n ≡ true → l.start ≤ n → l.least ≤ n;
}
