-- The rows of a state.
use Rattle.std.specs.Prelude.{◌≡◌, ℕ, ◌<◌, Bool, false, List, Option, None, Some, length, slice_get, slice_index_or}
use Rattle.packed_state.specs.Packed.{bits_of}
use Rattle.packed_state.specs.Sets.{has}
use Rattle.lower_bounds.specs.TableFunctions.{Table, row_in}
use Rattle.tables.specs.Projections.{AreProjections}
use Rattle.tables.specs.RowSums.{AreSums}
use Rattle.tables.specs.declared.known_rows.KnownRows.{KnownRows}

-- the number of the packed state's row of the table, if it has one
abbrev pub IsPlaceOfRow : Table → List Bool → Option ℕ → Type 0
IsPlaceOfRow t bits None = row_in bits t ≡ None
IsPlaceOfRow t bits (Some place) = (place < length t.rows) × (slice_get t.rows place ≡ row_in bits t)

-- the same for each table
abbrev pub KnowsRows : List Table → List Bool → List (Option ℕ) → Type 0
KnowsRows tables bits rows = (k : ℕ) (t : Table) → slice_get tables k ≡ Some t → IsPlaceOfRow t bits (slice_index_or rows k None)

-- the same for each table that is not touched
abbrev pub AreKnown : List Table → (touched bits : List Bool) → List (Option ℕ) → Type 0
AreKnown tables touched bits rows = (k : ℕ) (t : Table) → slice_get tables k ≡ Some t → has touched k ≡ false → IsPlaceOfRow t bits (slice_index_or rows k None)

-- the rows are those of the state, and the sums theirs
pub record IsKnown (tables : List Table) (count : ℕ) (k : KnownRows) : Type 0 where
  pub projections : AreProjections tables k.projections
  pub sums : AreSums tables count k.sums
  pub rows : KnowsRows tables (bits_of k.projections.state) k.sums.rows.items
