use Rattle.std.proofs.Common.{◌≡◌, map, take}
use Rattle.table_rows.specs.Losses.{indexed_of}
use Rattle.tables.specs.RowIndex.{indexed_in}
use Rattle.tables.proofs.tables.row_indexes.Given as goal

abbrev pub invariant-loop-indexed : goal.invariant-loop-indexed
invariant-loop-indexed l = map indexed_in l.rows.items ≡ map indexed_of (take l.indexed-index l.tables)
