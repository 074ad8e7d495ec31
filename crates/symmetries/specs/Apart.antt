-- Exchanges without a common atom: taking an image by one does not change whether the image by the other precedes the state.
use Rattle.std.specs.Prelude.{◌≡◌, ℕ, ◌<◌, ◌≤◌, Bool, true, false, ◌||◌, ◌==◌, List, [], slice_get}
use Rattle.std.specs.List.{list_any}
use Rattle.std.specs.Option.{option_map_or}
use Rattle.symmetries.specs.SwappedPlaces.{are_within}

-- the number is in one of the pairs
abbrev pub is_in : List (ℕ × ℕ) → ℕ → Bool
is_in pairs number = list_any (λ (pair : ℕ × ℕ). pair.0 == number || pair.1 == number) pairs

-- no number is in pairs of both
abbrev pub AreApart : List (ℕ × ℕ) → List (ℕ × ℕ) → Type 0
AreApart pairs others = (number : ℕ) → is_in pairs number ≡ true → is_in others number ≡ false

-- the pairs of the exchange of this number
abbrev pub pairs_at : List (List (ℕ × ℕ)) → ℕ → List (ℕ × ℕ)
pairs_at swaps number = option_map_or (λ pairs. pairs) (slice_get swaps number) []

abbrev pub AreAllWithin : ℕ → List (List (ℕ × ℕ)) → Type 0
AreAllWithin width swaps = (number : ℕ) → are_within width (pairs_at swaps number) ≡ true

-- the number is one of these
abbrev pub is_among : List ℕ → ℕ → Bool
is_among numbers number = list_any (λ (n : ℕ). n == number) numbers

-- the bound is at most the number of this exchange, and of the exchanges below the bound all that are not listed are apart from it
abbrev pub AreAllBelow : List (List (ℕ × ℕ)) → ℕ → List ℕ → ℕ → Type 0
AreAllBelow swaps number listed bound =
    (bound ≤ number) × ((other : ℕ) → other < bound → is_among listed other ≡ false → AreApart (pairs_at swaps number) (pairs_at swaps other))
