use Rattle.std.proofs.Common.{◌∙◌, ◌≤◌, Some, length, sym, ap, arith}
use Rattle.landmark_zones.specs.Rows.{between}
use Rattle.landmark_zones.proofs.RowLemmas.{row-within, row-at}
use Rattle.landmark_zones.proofs.values.Values.of.Goals as goal

pub offset_bounds-deref-start : goal.offset_bounds-deref-start
offset_bounds-deref-start c =
    let v = c.args.self.now in
    let within = row-within 0 v.ends.items (length v.shares.items) c.args.number c.index-end.result.now c.requires.fit c.requires.there in
    omega (arith, within.0, within.1, c.start-start.ensures, v.shares.ok.0)

pub slice_bounds-result-count : goal.slice_bounds-result-count
slice_bounds-result-count c =
    let v = c.args.self.now in
    let within = row-within 0 v.ends.items (length v.shares.items) c.args.number c.index-end.result.now c.requires.fit c.requires.there in
    omega (arith, within.0, c.start-start.ensures, c.index-end.ensures)

pub slice_bounds-result-start : goal.slice_bounds-result-start
slice_bounds-result-start c =
    let v = c.args.self.now in
    let within = row-within 0 v.ends.items (length v.shares.items) c.args.number c.index-end.result.now c.requires.fit c.requires.there in
    let up : c.start-start.result ≤ c.index-end.result.now = omega (arith, within.0, c.start-start.ensures, c.index-end.ensures) in
    up

pub slice_bounds-result-end : goal.slice_bounds-result-end
slice_bounds-result-end c =
    let v = c.args.self.now in
    let within = row-within 0 v.ends.items (length v.shares.items) c.args.number c.index-end.result.now c.requires.fit c.requires.there in
    let least : c.index-end.result.now ≤ length c.deref.result.now = omega (arith, within.1, c.index-end.ensures, ap length c.deref.ensures.value) in
    least

pub returns : goal.returns
returns c =
    let v = c.args.self.now in
    let start = sym c.start-start.ensures in
    let end = sym c.index-end.ensures in
    let shares = sym c.deref.ensures.value in
    row-at 0 v.ends.items v.shares.items c.args.number c.index-end.result.now c.requires.there ∙ (λ i. Some (between (start i) (end i) (shares i)))
