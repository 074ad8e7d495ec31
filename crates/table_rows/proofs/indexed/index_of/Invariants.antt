use Rattle.std.proofs.Common.{◌≡◌, length}
use Rattle.packed_state.specs.Packed.{bits_of}
use Rattle.packed_state.specs.PooledView.{pooled_states}
use Rattle.table_rows.specs.Tables.{table_of}
use Rattle.table_rows.specs.Lists.{IsIndexOf}
use Rattle.table_rows.proofs.indexed.index_of.Given as goal

abbrev pub invariant-loop-row : goal.invariant-loop-row
invariant-loop-row l = record {
  width : length l.index.lists.items ≡ length (table_of l.table).scope;
  wide : length (bits_of l.set) ≡ length (table_of l.table).scope;
  index : IsIndexOf (pooled_states l.table.rows.sets) l.row l.index;
}
