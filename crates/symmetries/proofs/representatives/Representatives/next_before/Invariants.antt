use Rattle.std.proofs.Common.{◌≡◌, ◌<◌, ◌≤◌, ℕ, false}
use Rattle.packed_state.specs.Packed.{bits_of}
use Rattle.symmetries.specs.SwappedPlaces.{is_earlier_at}
use Rattle.symmetries.specs.Representatives.{swaps_of}
use Rattle.symmetries.proofs.representatives.Representatives.next_before.Given as goal

-- no image so far comes before the state
abbrev pub invariant-loop-number : goal.invariant-loop-number
invariant-loop-number l = (n : ℕ) → l.from ≤ n → n < l.number → is_earlier_at (swaps_of l.self) (bits_of l.state) n ≡ false
