-- Rows that may agree with literals.
use Rattle.std.specs.Prelude.{◌≡◌, ℕ, ◌<◌, Bool, true, List, length, slice_get, Some}
use Rattle.std.specs.List.{list_all, range_with_len}
use Rattle.lower_bounds.specs.TableFunctions.{is_among}
use Rattle.table_rows.specs.Placed.{PlacedLiteral, is_so}
use Rattle.table_rows.specs.declared.candidates.Candidates.{Candidates}
use Rattle.table_rows.specs.declared.candidates.Candidates.TheVariants as code

abbrev pub candidates_of : Candidates → List ℕ
candidates_of (code.All count) = range_with_len 0 count
candidates_of (code.These rows) = rows.now

-- the numbers are of these sets, and include those of all sets that agree with the literals
pub record AreCandidates (sets : List (List Bool)) (literals : List PlacedLiteral) (rows : List ℕ) : Type 0 where
  pub covers : (row : ℕ) (set : List Bool) → slice_get sets row ≡ Some set → list_all (is_so set) literals ≡ true → is_among rows row ≡ true
  pub within : (row : ℕ) → is_among rows row ≡ true → row < length sets
