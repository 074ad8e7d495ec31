-- Widths: of an instance within a table's scope, and of scratch for its rows.
use Rattle.std.specs.Prelude.{◌≡◌, ℕ, ◌<◌, All, length, map}
use Rattle.packed_state.specs.Packed.{bits_of}
use Rattle.table_rows.specs.Placed.{PlacedLiteral, placed_of}
use Rattle.table_rows.specs.PlacedChanges.{changes_of, FitsWidth}
use Rattle.table_rows.specs.Tables.{table_of}
use Rattle.table_rows.specs.declared.table.Table.{Table}
use Rattle.table_rows.specs.declared.losses.Question.{Question}
use Rattle.table_rows.specs.declared.afters.Scratch.{Scratch}

-- the instance's places are in the scope
pub record FitsTable (t : Table) (q : Question) : Type 0 where
  pub literals : All (λ (l : PlacedLiteral). l.place < length (table_of t).scope) (map placed_of q.literals.now)
  pub changes : FitsWidth (length (table_of t).scope) (changes_of q.changes.now)

-- the scratch is for rows of this width
pub record HasWidth (width : ℕ) (r : Scratch) : Type 0 where
  pub row : length (bits_of r.row) ≡ width
  pub left : length (bits_of r.left) ≡ width
