-- Adding a row by its atoms.
use Rattle.std.specs.Prelude.{◌≡◌, ◌≢◌, true, false, [], ◌∷◌, ◌++◌, All}
use Rattle.std.specs.List.{list_all, Any}
use Rattle.lower_bounds.specs.TableFunctions.{Row, Table, is_among}
use Rattle.table_rows.specs.declared.by_atoms.Added.{Added}
use Rattle.table_rows.specs.declared.by_atoms.Added.TheVariants.{New, OutsideScope, Repeated}

-- the row is appended, and all others have other atoms
pub record IsNew (old new : Table) (row : Row) : Type 0 where
  pub of_scope : list_all (is_among old.scope) row.atoms ≡ true
  pub differs : All (λ (r : Row). r.atoms ≢ row.atoms) old.rows
  pub put : new ≡ record { scope = old.scope; rows = old.rows ++ row ∷ [] }

-- an atom of the row is not in the scope, and the table is unchanged
pub record IsOutsideScope (old new : Table) (row : Row) : Type 0 where
  pub not_of_scope : list_all (is_among old.scope) row.atoms ≡ false
  pub kept : new ≡ old

-- all are, but a row has exactly these, and the table is unchanged
pub record IsRepeated (old new : Table) (row : Row) : Type 0 where
  pub of_scope : list_all (is_among old.scope) row.atoms ≡ true
  pub same : Any (λ (r : Row). r.atoms ≡ row.atoms) old.rows
  pub kept : new ≡ old

abbrev pub IsAdded : (old new : Table) → Row → Added → Type 0
IsAdded old new row New = IsNew old new row
IsAdded old new row OutsideScope = IsOutsideScope old new row
IsAdded old new row Repeated = IsRepeated old new row
