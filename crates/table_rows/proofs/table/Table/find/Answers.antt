use Rattle.std.proofs.Common.{length}
use Rattle.packed_state.specs.PooledView.{pooled_states}
use Rattle.packed_state.specs.Packed.{bits_of}
use Rattle.table_rows.proofs.RowLemmas.{finds, found-within}
use Rattle.table_rows.proofs.StoreLemmas.{sets-wide}
use Rattle.table_rows.proofs.table.Table.find.Goals as goal

pub returns-clause-there : goal.returns-clause-there
returns-clause-there c =
    let t = c.args.self.now in
    found-within t.count t.scope.items (pooled_states t.rows.sets) t.rows.weights.items (bits_of c.args.set.now) c.find.result c.find.ensures

pub returns-clause-row : goal.returns-clause-row
returns-clause-row c =
    let t = c.args.self.now in
    finds t.count t.scope.items t.rising (bits_of c.args.set.now) c.requires (pooled_states t.rows.sets) t.rows.weights.items (sets-wide t.rows.sets (length t.scope.items) t.wide) t.rows.sets.pooled.stored.distinct
    c.find.result c.find.ensures
