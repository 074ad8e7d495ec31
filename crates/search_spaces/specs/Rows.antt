-- States as rows of words in one list.
use Rattle.std.specs.Prelude.{◌≡◌, ℕ, ◌+◌, ◌*◌, ◌<◌, ◌≤◌, List, ◌++◌, length, take, drop}
use Rattle.packed_state.specs.Store.{AreRows}
use Rattle.packed_state.specs.Pool.{rows_in}

-- `count` rows of as many words as the width needs, and no other words
pub record AreRowsOf (width stride count : ℕ) (words : List ℕ) : Type 0 where
  pub enough : width ≤ 64 * stride
  pub no_more : 64 * stride < width + 64
  pub long : length words ≡ count * stride
  pub packed : AreRows width (rows_in stride words count)

-- the words from a start on, overwritten by a row
abbrev pub overwritten : List ℕ → ℕ → List ℕ → List ℕ
overwritten words start row = take start words ++ row ++ drop (start + length row) words
