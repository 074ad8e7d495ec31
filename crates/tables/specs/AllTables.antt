-- Views of tables in memory.
use Rattle.std.specs.Prelude.{ℕ, List, map}
use Rattle.lower_bounds.specs.TableFunctions.{Table}
use Rattle.tables.specs.declared.tables.IndexedTables.{IndexedTables}
use Rattle.table_rows.specs.Losses.{indexed_of}

abbrev pub tables_of : IndexedTables → List Table
tables_of all = map indexed_of all.tables.items

-- the number of weights of each row
abbrev pub count_of : IndexedTables → ℕ
count_of all = all.count
