use Rattle.std.proofs.Common.{map, take}
use Rattle.packed_state.specs.PooledView.{pooled_states}
use Rattle.table_rows.specs.Candidates.{candidates_of, AreCandidates}
use Rattle.table_rows.specs.Placed.{placed_of}
use Rattle.table_rows.proofs.indexed.IndexedTable.candidates.Given as goal

abbrev pub invariant-loop-literal : goal.invariant-loop-literal
invariant-loop-literal l = AreCandidates (pooled_states l.self.table.now.rows.sets) (map placed_of (take l.literal-index l.literals)) (candidates_of l.best)
