-- An index of a table's rows.
use Rattle.std.specs.Prelude.{ℕ, List}
use Rattle.lower_bounds.specs.TableFunctions.{Table}
use Rattle.table_rows.specs.Tables.{table_of}
use Rattle.tables.specs.declared.row_index.RowIndex.{RowIndex}

-- the table
abbrev pub indexed_in : RowIndex → Table
indexed_in index = table_of index.table.now

-- the keys of its rows
abbrev pub keys_in : RowIndex → List ℕ
keys_in index = index.keys.items
