use Rattle.std.proofs.Common.{◌+◌, map, take, sym, arith, to_z, w64}
use Rattle.std.proofs.lemmas.Int.{ints}
use Rattle.grounding.specs.Views.{numbered_of}
use Rattle.grounding.specs.Changes.{counting_of}
use Rattle.potentials.proofs.LossLemmas.{losing-none, losing-range, losing-at}
use Rattle.potentials.proofs.losses.loses_at_most.Goals as goal

pub loop-place-init : goal.loop-place-init
loop-place-init c = sym (losing-none (map numbered_of c.args.literals.now) (map counting_of c.args.changes.now) c.args.weights.now)

pub overflow_add-total : goal.overflow_add-total
overflow_add-total c =
    let range = losing-range (map numbered_of c.args.literals.now) (map counting_of c.args.changes.now) c.args.weights.now (map counting_of (take c.loop-place.place c.args.changes.now)) c.requires.range in
    let low = range.0 in
    let high = range.1 in
    let so_far = c.loop-place.invariant in
    let few = c.requires.few in
    let r = c.loses_by-total.ensures.range in
    let least = r.least in
    let most = r.most in
    omega (arith, ints)

pub loop-place-preserved : goal.loop-place-preserved
loop-place-preserved c =
    let more = losing-at (map numbered_of c.args.literals.now) (map counting_of c.args.changes.now) c.args.weights.now c.args.changes.now c.loop-place.place (to_z w64 c.loop-place.total-bits) c.loses_by-total.result
    c.loop-place-test.true c.requires.below c.loses_by-total.ensures.value c.loop-place.invariant in
    let range = losing-range (map numbered_of c.args.literals.now) (map counting_of c.args.changes.now) c.args.weights.now (map counting_of (take (c.loop-place.place + 1) c.args.changes.now)) c.requires.range in
    let low = range.0 in
    let high = range.1 in
    let few = c.requires.few in
    let r = c.loses_by-total.ensures.range in
    let least = r.least in
    let most = r.most in
    omega (arith, ints)
