-- What an instance loses by one table.
use Rattle.std.specs.Prelude.{◌≡◌, ℕ, ◌<◌, Bool, true, false, ℤ, pos, List, length, get_or}
use Rattle.model.specs.NumberedLiterals.{NumberedLiteral}
use Rattle.lower_bounds.specs.TableFunctions as model
use Rattle.lower_bounds.specs.FairTables.{ConditionalChange, is_closed, table_loses}
use Rattle.table_rows.specs.declared.indexed.IndexedTable.{IndexedTable}
use Rattle.table_rows.specs.Fates.{IsLoss}
use Rattle.table_rows.specs.Tables.{table_of, weight_count_of}

abbrev pub indexed_of : IndexedTable → model.Table
indexed_of t = table_of t.table.now

-- the number of weights of each row
abbrev pub indexed_count_of : IndexedTable → ℕ
indexed_count_of t = weight_count_of t.table.now

-- the instance leads from rows to rows, and loses this much by the weights at a place
pub record LosesByTable (place : ℕ) (literals : List NumberedLiteral) (changes : List ConditionalChange) (table : model.Table) (lost : ℤ) : Type 0 where
  pub closed : is_closed literals changes table ≡ true
  pub is : lost ≡ table_loses place literals changes table
  pub range : IsLoss lost

-- the same at each of `count` places
pub record LosesByEach (count : ℕ) (literals : List NumberedLiteral) (changes : List ConditionalChange) (table : model.Table) (lost : List ℤ) : Type 0 where
  pub closed : is_closed literals changes table ≡ true
  pub long : length lost ≡ count
  pub each : (place : ℕ) → place < count → LosesByTable place literals changes table (get_or lost place (pos 0))

-- whether it leads from rows to rows, and what it loses then
abbrev pub AreLossesByTable : ℕ → List NumberedLiteral → List ConditionalChange → model.Table → List ℤ → Bool → Type 0
AreLossesByTable count literals changes table lost false = is_closed literals changes table ≡ false
AreLossesByTable count literals changes table lost true = LosesByEach count literals changes table lost
