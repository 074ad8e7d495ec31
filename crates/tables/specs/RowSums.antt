-- Rows of tables, and the sums of their weights.
use Rattle.std.specs.Prelude.{◌≡◌, ℕ, suc, ◌<◌, ℤ, pos, neg_ℤ, ◌+ℤ◌, ◌≤ℤ◌, List, [], ◌∷◌, Option, None, Some, IfSome, length, slice_get, slice_index_or}
use Rattle.lower_bounds.specs.TableFunctions.{Row, Table, given_by}
use Rattle.tables.specs.declared.row_sums.RowSums.{RowSums}

-- the row with this number, if one is given
abbrev pub row_at : Table → Option ℕ → Option Row
row_at t None = None
row_at t (Some row) = slice_get t.rows row

-- the sum of these rows' weights for the value at `place`
abbrev pub given_rows : ℕ → List Table → List (Option ℕ) → ℤ
given_rows place [] rows = pos 0
given_rows place (t ∷ tables) [] = pos 0
given_rows place (t ∷ tables) (row ∷ rows) = given_by place (row_at t row) +ℤ given_rows place tables rows

-- the number of tables without a row
abbrev pub lacking : List (Option ℕ) → ℕ
lacking [] = 0
lacking (None ∷ rows) = suc (lacking rows)
lacking (Some row ∷ rows) = lacking rows

-- a row or none of each table, and for each value the sum of their weights
pub record AreSums (tables : List Table) (count : ℕ) (s : RowSums) : Type 0 where
  pub rows : length s.rows.items ≡ length tables
  pub within : (k : ℕ) (t : Table) → slice_get tables k ≡ Some t → IfSome (slice_index_or s.rows.items k None) (λ row. row < length t.rows)
  pub missing : s.missing ≡ lacking s.rows.items
  pub long : length s.totals.items ≡ count
  pub totals : (place : ℕ) → place < count → slice_index_or s.totals.items place (pos 0) ≡ given_rows place tables s.rows.items

-- a weight or a loss is added without an overflow
pub record IsSmall (z : ℤ) : Type 0 where
  pub least : neg_ℤ (pos 4611686018427387904) ≤ℤ z
  pub most : z ≤ℤ pos 4611686018427387904

-- each number is the old one plus the weight at its place
pub record AreAdded (old weights new : List ℤ) : Type 0 where
  pub long : length new ≡ length old
  pub each : (place : ℕ) → slice_index_or new place (pos 0) ≡ (slice_index_or old place (pos 0) +ℤ slice_index_or weights place (pos 0))
