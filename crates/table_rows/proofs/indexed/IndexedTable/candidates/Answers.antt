use Rattle.std.proofs.Common.{◌∙◌, arith}
use Rattle.packed_state.specs.PooledView.{pooled_states}
use Rattle.table_rows.specs.Candidates.{candidates_of}
use Rattle.table_rows.proofs.FateLemmas.{all-candidates, narrower, item-at}
use Rattle.table_rows.proofs.RowLemmas.{length-rows}
use Rattle.table_rows.proofs.StoreLemmas.{few-sets}
use Rattle.table_rows.proofs.indexed.IndexedTable.candidates.Goals as goal

pub overflow_cast-best : goal.overflow_cast-best
overflow_cast-best c =
    let t = c.args.self.now.table.now in
    omega (arith, few-sets t.rows.sets, c.row_count.ensures.rows, length-rows t.count t.scope.items (pooled_states t.rows.sets) t.rows.weights.items)

pub loop-literal-init : goal.loop-literal-init
loop-literal-init c =
    let t = c.args.self.now.table.now in
    all-candidates (pooled_states t.rows.sets) c.row_count.result (c.row_count.ensures.rows ∙ length-rows t.count t.scope.items (pooled_states t.rows.sets) t.rows.weights.items)

pub loop-literal-preserved : goal.loop-literal-preserved
loop-literal-preserved c =
    let t = c.args.self.now.table.now in
    narrower (pooled_states t.rows.sets) c.args.self.now.index c.args.literals.now c.loop-literal.literal-index _ (candidates_of c.loop-literal.best) (candidates_of c.narrowed-best.result)
    (item-at c.args.literals.now c.loop-literal.literal-index _ c.loop-literal-test.true) c.args.self.now.indexed c.narrowed-best.ensures c.loop-literal.invariant
