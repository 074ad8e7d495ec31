-- Exchanges of objects acting on bits: pairs of places whose bits are swapped.
use Rattle.std.specs.Prelude.{◌≡◌, ℕ, ◌<◌, ◌≤◌, Bool, true, false, ◌&&◌, cond, nat_lt, List, [], ◌∷◌, map, slice_set, slice_get, Option, None, Some}
use Rattle.std.specs.List.{list_all}
use Rattle.std.specs.Option.{option_map_or}
use Rattle.packed_state.specs.Sets.{has}
use Rattle.model.specs.Task.{Atom}
use Rattle.symmetries_definitions.specs.Exchanges.{Exchange, image_of_object}
use Rattle.symmetries.specs.Numbers.{exchanged_numbers}

-- the pairs of numbers that the exchange swaps
abbrev pub swap_of : List Atom → Exchange → List (ℕ × ℕ)
swap_of atoms exchange = exchanged_numbers atoms (image_of_object exchange)

abbrev pub swaps_of_all : List Atom → List Exchange → List (List (ℕ × ℕ))
swaps_of_all atoms exchanges = map (swap_of atoms) exchanges

abbrev pub is_within : ℕ → ℕ × ℕ → Bool
is_within width pair = nat_lt pair.0 width && nat_lt pair.1 width

-- all numbers of the pairs are below the width
abbrev pub are_within : ℕ → List (ℕ × ℕ) → Bool
are_within width pairs = list_all (is_within width) pairs

-- One bit that is set where the other is not comes before; where both are the same, the rest decides.
abbrev pub decide : Bool → Bool → Bool → Bool
decide first second rest = cond first (cond second rest true) (cond second false rest)

-- in the first pair whose bits differ, the second bit is set
abbrev pub is_earlier : List (ℕ × ℕ) → (ℕ → Bool) → Bool
is_earlier [] bit = false
is_earlier (pair ∷ pairs) bit = decide (bit pair.1) (bit pair.0) (is_earlier pairs bit)

-- the bits of each pair are swapped
abbrev pub with_swapped : List (ℕ × ℕ) → List Bool → List Bool
with_swapped [] bits = bits
with_swapped (pair ∷ pairs) bits = with_swapped pairs (slice_set (slice_set bits pair.0 (has bits pair.1)) pair.1 (has bits pair.0))

-- ---- of several exchanges, by their numbers

abbrev pub is_earlier_at : List (List (ℕ × ℕ)) → List Bool → ℕ → Bool
is_earlier_at swaps bits number = option_map_or (λ pairs. is_earlier pairs (has bits)) (slice_get swaps number) false

abbrev pub swapped_at : List (List (ℕ × ℕ)) → List Bool → ℕ → List Bool
swapped_at swaps bits number = option_map_or (λ pairs. with_swapped pairs bits) (slice_get swaps number) bits

-- the first of them, from this number on, whose image comes before the bits
abbrev pub FindsFrom : List (List (ℕ × ℕ)) → List Bool → ℕ → Option ℕ → Type 0
FindsFrom swaps bits from None = (number : ℕ) → from ≤ number → is_earlier_at swaps bits number ≡ false
FindsFrom swaps bits from (Some found) =
    (is_earlier_at swaps bits found ≡ true) × ((number : ℕ) → from ≤ number → number < found → is_earlier_at swaps bits number ≡ false)
