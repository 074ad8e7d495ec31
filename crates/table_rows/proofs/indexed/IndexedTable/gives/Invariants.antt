use Rattle.std.proofs.Common.{◌≡◌, map, take, length}
use Rattle.grounding.specs.Views.{numbered_of}
use Rattle.packed_state.specs.Packed.{bits_of}
use Rattle.table_rows.specs.Tables.{table_of}
use Rattle.table_rows.proofs.GivingLemmas.{most_given}
use Rattle.table_rows.proofs.indexed.IndexedTable.gives.Given as goal

abbrev pub invariant-loop-row : goal.invariant-loop-row
invariant-loop-row l = record {
  wide : length (bits_of l.set) ≡ length (table_of l.self.table.now).scope;
  most : l.most ≡ most_given (table_of l.self.table.now).scope l.self.table.now.rising (table_of l.self.table.now).rows (map numbered_of l.literals) l.place (take l.row (table_of l.self.table.now).rows);
}
