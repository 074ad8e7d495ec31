use Rattle.std.proofs.Common.{◌≡◌, ◌≤◌, ◌<◌, ◌-◌, ◌/◌, ℕ, false, length}
use Rattle.packed_state.specs.Words.{word_has}
use Rattle.packed_state.proofs.words.next.Given as goal

abbrev pub invariant-words : goal.invariant-words
invariant-words l = (l.from ≤ l.number) × ((k : ℕ) → l.from ≤ k → k < l.number → word_has l.words k ≡ false)

abbrev pub decreases-words : goal.decreases-words
decreases-words l = length l.words - l.number / 64
