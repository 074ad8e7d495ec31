use Rattle.std.proofs.Common.{◌<◌, length, refl, ap, arith}
use Rattle.std.proofs.lemmas.Int.{ints}
use Rattle.std.proofs.lemmas.Option.{slice_get_read}
use Rattle.packed_state.specs.Packed.{bits_of}
use Rattle.tables.proofs.ValueLemmas.{scores-more, scores-all}
use Rattle.tables.proofs.several.TableFunctions.scores.Goals as goal

pub loop-place-init : goal.loop-place-init
loop-place-init c = record { long = ap length c.new-scores.ensures.items; each = λ k p below. absurd (omega (arith, below)) }

pub loop-place-preserved : goal.loop-place-preserved
loop-place-preserved c =
    let items = c.args.self.now.values.items in
    let k = c.loop-place.place in
    let within : k < length items = omega (arith, c.loop-place-test.true, c.len-place-end.ensures) in
    let is = c.score.ensures in
    scores-more items (bits_of c.args.state.now) k c.index.result.now c.loop-place.scores.items _ _ (slice_get_read items (length items) k c.index.result.now refl within c.index.ensures) (omega (arith, ints)) c.in_ok-push.ensures.items c.loop-place.invariant

pub returns : goal.returns
returns c =
    let items = c.args.self.now.values.items in
    let is = c.score-2.ensures in
    scores-all items c.args.self.now.dead_ends (bits_of c.args.state.now) c.loop-place.place c.loop-place.scores.items _ _ (omega (arith, c.loop-place-test.false, c.len-place-end.ensures)) (omega (arith, ints)) c.in_ok-push-2.ensures.items c.loop-place.invariant
