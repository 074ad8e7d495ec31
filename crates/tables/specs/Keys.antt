-- Keys: sets of at most 64 numbers, each as one word.
use Rattle.std.specs.Prelude.{◌≡◌, ℕ, Bool, List, [], ◌∷◌, Some, slice_get}
use Rattle.packed_state.specs.Words.{bits_in}

-- each key is the word of the set with its index
abbrev pub AreKeys : ℕ → List (List Bool) → List ℕ → Type 0
AreKeys width sets keys = (row key : ℕ) → slice_get keys row ≡ Some key → slice_get sets row ≡ Some (bits_in width (key ∷ []))

-- the words are this row's key
pub record HasKey (keys words : List ℕ) (row : ℕ) : Type 0 where
  pub key : ℕ
  pub is : words ≡ key ∷ []
  pub at : slice_get keys row ≡ Some key
