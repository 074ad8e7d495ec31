use Rattle.std.proofs.Common.{rules, ◌≡◌, ◌∙◌, ◌<◌, length, get_or, refl, ap, arith, pos, neg_ℤ, ◌+ℤ◌, ◌-ℤ◌, to_z, of_z, w64}
use Rattle.std.specs.Int.{int_max}
use Rattle.table_rows.proofs.ColumnLemmas.{below-more, IsGreater, greater-is, raised-all, raised-range}
use Rattle.table_rows.proofs.columns.raise.Goals as goal

pub loop-place-preserved : goal.loop-place-preserved
loop-place-preserved c =
    let k = c.loop-place.place in
    let from = c.args.from.now in
    let to = c.args.to.now in
    let mid = c.loop-place.most in
    let long = c.loop-place.invariant.long in
    let within : k < length mid = omega (arith, c.loop-place-test.true) in
    let there : k < length c.args.most.now = omega (arith, within, long) in
    let was = c.requires.range k (pos 0) there in
    let left = c.loop-place.invariant.left k (omega arith) in
    let same : to_z w64 (of_z w64 c.greater.result) ≡ c.greater.result = search rules in
    let number : to_z w64 (of_z w64 c.greater.result) ≡ int_max (get_or c.args.most.now k (pos 0)) (get_or from k (pos 0) +ℤ neg_ℤ (get_or to k (pos 0))) =
    same ∙ greater-is (get_or c.args.most.now k (pos 0)) (get_or from k (pos 0)) (get_or to k (pos 0)) c.greater.result was
    (c.requires.from_range k (pos 0) (omega (arith, there, c.requires.from))) (c.requires.to_range k (pos 0) (omega (arith, there, c.requires.to)))
    (c.greater.ensures ∙ ap (λ z. int_max (to_z w64 (of_z w64 z)) (to_z w64 (of_z w64 (to_z w64 (of_z w64 (get_or from k (pos 0))) -ℤ to_z w64 (of_z w64 (get_or to k (pos 0))))))) left) in
    below-more (IsGreater from to) k c.args.most.now mid _ _ within refl number c.loop-place.invariant

pub returns-clause-range : goal.returns-clause-range
returns-clause-range c =
    raised-range c.args.from.now c.args.to.now c.args.most.now c.loop-place.most c.requires.from c.requires.to c.requires.from_range c.requires.to_range c.requires.range
    (raised-all c.args.from.now c.args.to.now c.args.most.now c.loop-place.most c.loop-place.place (omega (arith, c.loop-place-test.false)) c.loop-place.invariant)
