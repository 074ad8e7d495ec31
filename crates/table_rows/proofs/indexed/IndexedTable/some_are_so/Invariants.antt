use Rattle.std.proofs.Common.{◌≡◌, map, take, length}
use Rattle.packed_state.specs.Packed.{bits_of}
use Rattle.packed_state.specs.PooledView.{pooled_states}
use Rattle.table_rows.specs.Candidates.{candidates_of}
use Rattle.table_rows.specs.Placed.{placed_of}
use Rattle.table_rows.proofs.GivingLemmas.{NoneAreSo}
use Rattle.table_rows.proofs.indexed.IndexedTable.some_are_so.Given as goal

abbrev pub invariant-loop-k : goal.invariant-loop-k
invariant-loop-k l = record {
  wide : length (bits_of l.set) ≡ length l.self.table.now.scope.items;
  none : NoneAreSo (pooled_states l.self.table.now.rows.sets) (map placed_of l.literals) (take l.k (candidates_of l.candidates));
}
