-- Values and tables that fit together.
use Rattle.std.specs.Prelude.{◌≡◌, ◌+◌, ◌^◌, ◌<◌, IsTrue, All, List, length}
use Rattle.potentials.specs.Potentials.{potentials_of}
use Rattle.potentials.specs.declared.potentials.Potentials.{Potentials}
use Rattle.lower_bounds.specs.TableLaws.{are_over}
use Rattle.tables.specs.AllTables.{tables_of, count_of}
use Rattle.tables.specs.declared.tables.IndexedTables.{IndexedTables}

-- All values have weights for the same atoms, scopes are among these, and each row has a weight for each value and one for dead ends.
pub record FitTogether (values : List Potentials) (dead_ends : Potentials) (tables : IndexedTables) : Type 0 where
  pub counts : count_of tables ≡ length values + 1
  pub widths : All (λ (p : Potentials). length (potentials_of p).weights ≡ length (potentials_of dead_ends).weights) values
  pub few_values : length values < 2 ^ 32
  pub few : length (potentials_of dead_ends).weights < 2 ^ 24
  pub scopes : IsTrue (are_over (length (potentials_of dead_ends).weights) (tables_of tables))
