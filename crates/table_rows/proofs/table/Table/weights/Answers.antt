use Rattle.std.proofs.Common.{◌≡◌, ◌∙◌, ◌+◌, ◌-◌, ◌*◌, ◌≤◌, ℕ, length, take, drop, ap, arith}
use Rattle.packed_state.specs.PooledView.{pooled_states}
use Rattle.table_rows.proofs.RowLemmas.{length-rows, row-weights, weights-within}
use Rattle.table_rows.proofs.table.Table.weights.Goals as goal

pub offset_bounds-deref-start : goal.offset_bounds-deref-start
offset_bounds-deref-start c =
    let t = c.args.self.now in
    let sets = pooled_states t.rows.sets in
    let within = weights-within t.count c.args.row (length sets) (length t.rows.weights.items) (omega (arith, c.requires, length-rows t.count t.scope.items sets t.rows.weights.items)) t.weighed in
    omega (arith, within, t.rows.weights.ok.0)

pub slice_bounds-result-end : goal.slice_bounds-result-end
slice_bounds-result-end c =
    let t = c.args.self.now in
    let sets = pooled_states t.rows.sets in
    let within = weights-within t.count c.args.row (length sets) (length t.rows.weights.items) (omega (arith, c.requires, length-rows t.count t.scope.items sets t.rows.weights.items)) t.weighed in
    let least : t.count * c.args.row + t.count ≤ length c.deref.result.now = omega (arith, within, ap length c.deref.ensures.value) in
    least

pub returns : goal.returns
returns c = λ r there.
    let t = c.args.self.now in
    let start : ℕ = t.count * c.args.row in
    let wide : start + t.count - start ≡ t.count = omega arith in
    ap (λ n. take n (drop start c.deref.result.now)) wide ∙ ap (λ weights. take t.count (drop start weights)) c.deref.ensures.value
    ∙ row-weights t.count t.scope.items (pooled_states t.rows.sets) t.rows.weights.items c.args.row r there
