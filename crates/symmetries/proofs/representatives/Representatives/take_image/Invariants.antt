use Rattle.std.proofs.Common.{◌≡◌, ℕ, true, false, take}
use Rattle.packed_state.specs.Packed.{bits_of}
use Rattle.symmetries.specs.SwappedPlaces.{is_earlier_at}
use Rattle.symmetries.specs.Apart.{is_among}
use Rattle.symmetries.specs.Representatives.{swaps_of}
use Rattle.symmetries.proofs.representatives.Representatives.take_image.Given as goal

-- no image by one of the neighbours so far comes before the state
abbrev pub invariant-loop-neighbour : goal.invariant-loop-neighbour
invariant-loop-neighbour l = (n : ℕ) → is_among (take l.neighbour-index l.lowest.numbers.items) n ≡ true → is_earlier_at (swaps_of l.self) (bits_of l.state) n ≡ false
