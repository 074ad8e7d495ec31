use Rattle.std.proofs.Common.{◌∙◌, ◌^◌, sym, ap, arith}
use Rattle.std.specs.Prelude.{nat_lt}
use Rattle.std.proofs.lemmas.Bool.{le-leb}
use Rattle.packed_state.specs.PooledView.{pooled_states}
use Rattle.table_rows.proofs.ManyWays.{outnumbered-at-once, outnumbered-by-shift}
use Rattle.table_rows.proofs.RowLemmas.{length-rows}
use Rattle.table_rows.proofs.StoreLemmas.{few-sets}
use Rattle.table_rows.proofs.indexed.IndexedTable.is_outnumbered.Goals as goal

pub returns-then-places-ge32 : goal.returns-then-places-ge32
returns-then-places-ge32 c =
    let t = c.args.self.now.table.now in
    let rows = length-rows t.count t.scope.items (pooled_states t.rows.sets) t.rows.weights.items in
    le-leb 32 c.args.places c.if-places-ge32.true
    ∙ sym (outnumbered-at-once _ c.args.places (omega (arith, few-sets t.rows.sets, rows)) c.if-places-ge32.true)

pub returns-else-places-ge32 : goal.returns-else-places-ge32
returns-else-places-ge32 c = outnumbered-by-shift c.row_count.result c.args.places ∙ ap (λ rows. nat_lt rows (2 ^ c.args.places)) c.row_count.ensures.rows
