use Rattle.std.proofs.Common.{◌≡◌, map, take}
use Rattle.std.specs.Prelude.{All}
use Rattle.table_rows.specs.Tables.{table_of}
use Rattle.table_rows.specs.Losses.{indexed_of, indexed_count_of}
use Rattle.table_rows.specs.declared.indexed.IndexedTable.{IndexedTable}
use Rattle.tables.proofs.tables.IndexedTables.index.Given as goal

abbrev pub invariant-loop-table : goal.invariant-loop-table
invariant-loop-table l = record {
  tables : map indexed_of l.indexed.items ≡ map table_of (take l.table-index l.tables);
  counts : All (λ (t : IndexedTable). indexed_count_of t ≡ l.count) l.indexed.items;
}
