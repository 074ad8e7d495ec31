-- What an instance makes of a table's rows, by their sets: whether it leads to rows, and what is lost.
use Rattle.std.specs.Prelude.{◌≡◌, ℕ, Bool, true, not, ◌||◌, if◌then◌else◌, ℤ, pos, neg_ℤ, ◌≤ℤ◌, List, [], length, map, slice_get, is_some}
use Rattle.std.specs.List.{list_all, flat_map, range_with_len}
use Rattle.std.specs.Option.{option_map_or}
use Rattle.lower_bounds.specs.TableFunctions.{Table, row_of, weight_at}
use Rattle.table_rows.specs.Rows.{atoms_at}
use Rattle.table_rows.specs.Placed.{PlacedLiteral, placed_of, is_so}
use Rattle.table_rows.specs.Afters.{PlacedChanges, ways_of, losses_to, most_of}
use Rattle.table_rows.specs.PlacedChanges.{changes_of}
use Rattle.table_rows.specs.Tables.{table_of, sets_of}
use Rattle.table_rows.specs.declared.table.Table as code_of_table
use Rattle.table_rows.specs.declared.losses.Question as code_of_question

-- the difference of two weights
pub record IsLoss (z : ℤ) : Type 0 where
  pub least : neg_ℤ (pos 4294967294) ≤ℤ z
  pub most : z ≤ℤ pos 4294967294

abbrev pub are_rows : Table → List (List Bool) → Bool
are_rows table sets = list_all (λ set. is_some (row_of table (atoms_at table.scope set))) sets

-- ---- rows

-- an instance within the scope of a table whose rows have these sets
pub record Question : Type 0 where
  pub table : Table
  pub sets : List (List Bool)
  pub literals : List PlacedLiteral
  pub changes : PlacedChanges

abbrev pub question_of : code_of_table.Table → code_of_question.Question → Question
question_of t q = record { table = table_of t; sets = sets_of t; literals = map placed_of q.literals.now; changes = changes_of q.changes.now }

abbrev pub weight_in : Question → ℕ → ℕ → ℤ
weight_in q place row = option_map_or (weight_at place) (slice_get q.table.rows row) (pos 0)

-- the row of this set disagrees with the literals, or leads to rows only
abbrev pub is_closed_from : Question → List Bool → Bool
is_closed_from q set = not (list_all (is_so set) q.literals) || are_rows q.table (ways_of q.changes set)

abbrev pub closed_at : Question → ℕ → Bool
closed_at q row = option_map_or (is_closed_from q) (slice_get q.sets row) true

-- the losses from it by the weights at a place, if it agrees
abbrev pub lost_from : Question → ℕ → ℤ → List Bool → List ℤ
lost_from q place weight set = if list_all (is_so set) q.literals then losses_to q.table place weight (ways_of q.changes set) else []

abbrev pub lost_at : Question → ℕ → ℕ → List ℤ
lost_at q place row = option_map_or (lost_from q place (weight_in q place row)) (slice_get q.sets row) []

-- ---- all rows

abbrev pub rows_of : Question → List ℕ
rows_of q = range_with_len 0 (length q.sets)

-- each leads to rows, and this is the greatest loss from one by the weights at a place
pub record LosesInAll (q : Question) (place : ℕ) (most : ℤ) : Type 0 where
  pub closed : list_all (closed_at q) (rows_of q) ≡ true
  pub is : most ≡ option_map_or (λ (z : ℤ). z) (most_of (flat_map (lost_at q place) (rows_of q))) (pos 0)
  pub range : IsLoss most
