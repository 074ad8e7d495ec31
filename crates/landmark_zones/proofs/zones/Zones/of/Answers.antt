use Rattle.std.proofs.Common.{◌∙◌, ◌≤◌, Some, length, sym, ap, arith}
use Rattle.landmark_zones.specs.Rows.{between}
use Rattle.landmark_zones.proofs.ZoneLemmas.{zone-bounds, zone-at, zone-of}
use Rattle.landmark_zones.proofs.zones.Zones.of.Goals as goal

pub offset_bounds-deref-start : goal.offset_bounds-deref-start
offset_bounds-deref-start c =
    let z = c.args.self.now in
    let bounds = zone-bounds z.ends.items (length z.numbers.items) c.args.number c.start-start.result c.index-end.result.now c.requires.fit c.requires.there c.start-start.ensures c.index-end.ensures in
    let first = bounds.first in
    let second = bounds.second in
    let past = bounds.past in
    omega (arith, first, second, past, z.numbers.ok.0)

pub slice_bounds-result-count : goal.slice_bounds-result-count
slice_bounds-result-count c =
    let z = c.args.self.now in
    let bounds = zone-bounds z.ends.items (length z.numbers.items) c.args.number c.start-start.result c.index-end.result.now c.requires.fit c.requires.there c.start-start.ensures c.index-end.ensures in
    let first = bounds.first in
    let second = bounds.second in
    let past = bounds.past in
    omega (arith, first)

pub slice_bounds-result-start : goal.slice_bounds-result-start
slice_bounds-result-start c =
    let z = c.args.self.now in
    let bounds = zone-bounds z.ends.items (length z.numbers.items) c.args.number c.start-start.result c.index-end.result.now c.requires.fit c.requires.there c.start-start.ensures c.index-end.ensures in
    let first = bounds.first in
    let second = bounds.second in
    let past = bounds.past in
    let up : c.start-start.result ≤ c.index-end.result.now.atoms = first in
    up

pub slice_bounds-result-end : goal.slice_bounds-result-end
slice_bounds-result-end c =
    let z = c.args.self.now in
    let bounds = zone-bounds z.ends.items (length z.numbers.items) c.args.number c.start-start.result c.index-end.result.now c.requires.fit c.requires.there c.start-start.ensures c.index-end.ensures in
    let first = bounds.first in
    let second = bounds.second in
    let past = bounds.past in
    let least : c.index-end.result.now.atoms ≤ length c.deref.result.now = omega (arith, second, past, ap length c.deref.ensures.value) in
    least

pub offset_bounds-deref-end : goal.offset_bounds-deref-end
offset_bounds-deref-end c =
    let z = c.args.self.now in
    let bounds = zone-bounds z.ends.items (length z.numbers.items) c.args.number c.start-start.result c.index-end.result.now c.requires.fit c.requires.there c.start-start.ensures c.index-end.ensures in
    let first = bounds.first in
    let second = bounds.second in
    let past = bounds.past in
    omega (arith, first, second, past, z.numbers.ok.0)

pub slice_bounds-result-count-2 : goal.slice_bounds-result-count-2
slice_bounds-result-count-2 c =
    let z = c.args.self.now in
    let bounds = zone-bounds z.ends.items (length z.numbers.items) c.args.number c.start-start.result c.index-end.result.now c.requires.fit c.requires.there c.start-start.ensures c.index-end.ensures in
    let first = bounds.first in
    let second = bounds.second in
    let past = bounds.past in
    omega (arith, second)

pub slice_bounds-result-start-2 : goal.slice_bounds-result-start-2
slice_bounds-result-start-2 c =
    let z = c.args.self.now in
    let bounds = zone-bounds z.ends.items (length z.numbers.items) c.args.number c.start-start.result c.index-end.result.now c.requires.fit c.requires.there c.start-start.ensures c.index-end.ensures in
    let first = bounds.first in
    let second = bounds.second in
    let past = bounds.past in
    let up : c.index-end.result.now.atoms ≤ c.index-end.result.now.negated = second in
    up

pub slice_bounds-result-end-2 : goal.slice_bounds-result-end-2
slice_bounds-result-end-2 c =
    let z = c.args.self.now in
    let bounds = zone-bounds z.ends.items (length z.numbers.items) c.args.number c.start-start.result c.index-end.result.now c.requires.fit c.requires.there c.start-start.ensures c.index-end.ensures in
    let first = bounds.first in
    let second = bounds.second in
    let past = bounds.past in
    let least : c.index-end.result.now.negated ≤ length c.deref-2.result.now = omega (arith, past, ap length c.deref-2.ensures.value) in
    least

pub returns : goal.returns
returns c =
    let z = c.args.self.now in
    let start = sym c.start-start.ensures in
    let end = sym c.index-end.ensures in
    let numbers = sym c.deref.ensures.value in
    let others = sym c.deref-2.ensures.value in
    zone-at 0 z.ends.items z.numbers.items c.args.number c.index-end.result.now c.requires.there
    ∙ (λ i. Some (zone-of (between (start i) (end i).atoms (numbers i)) (between (end i).atoms (end i).negated (others i))))
