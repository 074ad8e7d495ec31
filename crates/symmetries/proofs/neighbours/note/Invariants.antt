use Rattle.std.proofs.Common.{◌≡◌, ℕ, true, length, map, take}
use Rattle.symmetries.specs.NumberPairs.{pair_of}
use Rattle.symmetries.specs.Apart.{is_in}
use Rattle.symmetries.specs.Lowest.{may_move_at}
use Rattle.symmetries.proofs.neighbours.note.Given as goal

-- the number is noted beside those of the pairs so far
abbrev pub invariant-loop-pair : goal.invariant-loop-pair
invariant-loop-pair l = record {
  wide : length l.noted ≡ length l.initial.noted;
  kept : (atom n : ℕ) → may_move_at l.initial.noted atom n ≡ true → may_move_at l.noted atom n ≡ true;
  noted : (atom : ℕ) → is_in (map pair_of (take l.pair-index l.pairs)) atom ≡ true → may_move_at l.noted atom l.number ≡ true;
}
