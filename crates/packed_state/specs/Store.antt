-- Lists of distinct states, in which a state's place is looked up.
use Rattle.std.specs.Prelude.{◌≡◌, ◌≤◌, ℕ, Bool, List, [], ◌∷◌, ◌++◌, length, map, slice_get, Some, Contains, MatchBool}
use Rattle.packed_state.specs.Words.{bits_in, AreWordsOf}

-- no state is in the list twice
abbrev pub AreDistinct : {S : Type 0} → List S → Type 0
AreDistinct {S} states = (j k : ℕ) (s : S) → slice_get states j ≡ Some s → slice_get states k ≡ Some s → j ≡ k

-- The state is at this place of the new list: of the old one, if it was there, which then stays as it is, and
-- otherwise at the end.
abbrev pub IsPlaced : {S : Type 0} → List S → List S → S → ℕ → Bool → Type 0
IsPlaced old new s place is_new =
    MatchBool is_new
    ((¬ Contains old s) × (new ≡ old ++ s ∷ []) × (place ≡ length old))
    ((slice_get old place ≡ Some s) × (new ≡ old))

-- each row of words holds a set of numbers below the width
abbrev pub AreRows : ℕ → List (List ℕ) → Type 0
AreRows width rows = (place : ℕ) (words : List ℕ) → slice_get rows place ≡ Some words → AreWordsOf width words

-- the sets that the rows hold
unfoldable pub sets_in : ℕ → List (List ℕ) → List (List Bool)
sets_in width rows = map (bits_in width) rows

-- the rows of a store: at most 16,777,216 distinct sets
pub record AreStored (width : ℕ) (rows : List (List ℕ)) : Type 0 where
  pub packed : AreRows width rows
  pub few : length rows ≤ 16777216
  pub distinct : AreDistinct (sets_in width rows)
