use Rattle.std.proofs.Common.{◌≡◌, length}
use Rattle.packed_state.specs.Packed.{bits_of}
use Rattle.tables.specs.Keys.{AreKeys}
use Rattle.table_rows.specs.Tables.{table_of, sets_of}
use Rattle.tables.proofs.row_index.keys.Given as goal

abbrev pub invariant-loop-row : goal.invariant-loop-row
invariant-loop-row l = record {
  width : length (bits_of l.set) ≡ length (table_of l.table).scope;
  long : length l.keys.items ≡ l.row;
  keyed : AreKeys (length (table_of l.table).scope) (sets_of l.table) l.keys.items;
}
