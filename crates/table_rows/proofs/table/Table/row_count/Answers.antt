use Rattle.std.proofs.Common.{◌∙◌, sym, arith}
use Rattle.packed_state.specs.PooledView.{pooled_states}
use Rattle.table_rows.proofs.RowLemmas.{length-rows}
use Rattle.table_rows.proofs.StoreLemmas.{few-sets}
use Rattle.table_rows.proofs.table.Table.row_count.Goals as goal

pub returns-clause-rows : goal.returns-clause-rows
returns-clause-rows c =
    let t = c.args.self.now in
    c.len.ensures ∙ sym (length-rows t.count t.scope.items (pooled_states t.rows.sets) t.rows.weights.items)

pub returns-clause-few : goal.returns-clause-few
returns-clause-few c = omega (arith, c.len.ensures, few-sets c.args.self.now.rows.sets)
