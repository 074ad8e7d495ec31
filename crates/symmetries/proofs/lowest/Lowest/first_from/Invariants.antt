use Rattle.std.proofs.Common.{◌≡◌, ◌≤◌, ℕ, true, take}
use Rattle.symmetries.specs.Apart.{is_among}
use Rattle.symmetries.proofs.lowest.Lowest.first_from.Given as goal

-- it is at most all numbers from both on, and at most each so far that is not before the start
abbrev pub invariant-loop-number : goal.invariant-loop-number
invariant-loop-number l = record {
  most : (n : ℕ) → l.self.from ≤ n → l.start ≤ n → l.first ≤ n;
  least : (n : ℕ) → is_among (take l.number-index l.self.numbers.items) n ≡ true → l.start ≤ n → l.first ≤ n;
}
