-- Views of tables in memory.
use Rattle.std.specs.Prelude.{◌≡◌, ℕ, Bool, List, [], ◌∷◌, ◌++◌, MatchBool, IsTrue, is_some, None}
use Rattle.packed_state.specs.PooledView.{pooled_states}
use Rattle.lower_bounds.specs.TableFunctions as model
use Rattle.lower_bounds.specs.TableFunctions.{Row, row_of}
use Rattle.table_rows.specs.declared.table.Table.{Table}
use Rattle.table_rows.specs.Rows.{rows_from}

abbrev pub table_of : Table → model.Table
table_of t = record { scope = t.scope.items; rows = rows_from t.count t.scope.items (pooled_states t.rows.sets) t.rows.weights.items }

-- the set of each row: a bit for each atom of the scope
abbrev pub sets_of : Table → List (List Bool)
sets_of t = pooled_states t.rows.sets

-- the number of weights of each row
abbrev pub weight_count_of : Table → ℕ
weight_count_of t = t.count

-- the row is appended if none had its atoms; else the table is unchanged
abbrev pub IsInserted : (old new : model.Table) → Row → Bool → Type 0
IsInserted old new row is_new =
    MatchBool is_new
    ((row_of old row.atoms ≡ None) × (new ≡ record { scope = old.scope; rows = old.rows ++ row ∷ [] }))
    (IsTrue (is_some (row_of old row.atoms)) × (new ≡ old))
