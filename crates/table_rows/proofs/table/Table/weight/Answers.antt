use Rattle.std.proofs.Common.{rules, ◌≡◌, ◌∙◌, ◌+◌, ◌*◌, length, get_or, refl, sym, arith, pos, to_z, of_z, w64}
use Rattle.std.proofs.lemmas.Option.{slice_get_read, get_or_from_slice_get}
use Rattle.packed_state.specs.PooledView.{pooled_states}
use Rattle.table_rows.proofs.RowLemmas.{length-rows, row-weight, weight-within}
use Rattle.table_rows.proofs.table.Table.weight.Goals as goal

pub index-requires : goal.index-requires
index-requires c =
    let t = c.args.self.now in
    let sets = pooled_states t.rows.sets in
    let within = weight-within t.count c.args.row c.args.place (length sets) (length t.rows.weights.items)
    (omega (arith, c.requires.there, length-rows t.count t.scope.items sets t.rows.weights.items)) c.requires.place t.weighed in
    omega (arith, within, t.rows.weights.ok.0)

pub returns : goal.returns
returns c =
    let t = c.args.self.now in
    let sets = pooled_states t.rows.sets in
    let weights = t.rows.weights.items in
    let at = t.count * c.args.row + c.args.place in
    let within = weight-within t.count c.args.row c.args.place (length sets) (length weights)
    (omega (arith, c.requires.there, length-rows t.count t.scope.items sets weights)) c.requires.place t.weighed in
    let same : to_z w64 (of_z w64 c.index.result.now) ≡ c.index.result.now = search rules in
    let value : get_or weights at (pos 0) ≡ c.index.result.now =
    get_or_from_slice_get weights at c.index.result.now (pos 0) (slice_get_read weights (length weights) at c.index.result.now refl within c.index.ensures) in
    λ r there. same ∙ sym value ∙ row-weight t.count t.scope.items sets weights c.args.row c.args.place r c.requires.place there
