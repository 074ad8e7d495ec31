use Rattle.std.proofs.Common.{◌≡◌, ◌+◌, length, subst, arith}
use Rattle.packed_state.specs.Packed.{bits_of}
use Rattle.symmetries.specs.SwappedPlaces.{FindsFrom}
use Rattle.symmetries.specs.Representatives.{swaps_of}
use Rattle.symmetries.proofs.Kept.{begins, image_taken, next_round, has_ended_there, has_come_there}
use Rattle.symmetries.proofs.representatives.Representatives.represent.Goals as goal

pub rounds-init : goal.rounds-init
rounds-init c =
    let counted : c.len-count.result + 1 ≡ length c.args.self.now.swaps.items + 1 = omega (arith, c.len-count.ensures, c.args.self.now.swaps.ok.0) in
    begins c.args.self.now (bits_of c.args.state.now) (c.len-count.result + 1) counted c.requires c.next_before-next.result c.next_before-next.ensures

pub images-init : goal.images-init
images-init c = c.rounds.invariant

pub take_image-next-requires-clause-wide : goal.take_image-next-requires-clause-wide
take_image-next-requires-clause-wide c = c.images.invariant.wide

pub take_image-next-requires-clause-first : goal.take_image-next-requires-clause-first
take_image-next-requires-clause-first c = subst (FindsFrom (swaps_of c.args.self.now) (bits_of c.images.state) 0) c.in-Some.is c.images.invariant.finds

pub images-preserved : goal.images-preserved
images-preserved c =
    image_taken c.args.self.now (bits_of c.args.state.now) _ c.rounds.counter c.images.counter (bits_of c.images.state) c.images.next c.rounds-test.true c.images-test.true c.images.invariant
    c.in-Some.number c.in-Some.is (bits_of c.take_image-next.new.state) c.take_image-next.ensures.image c.take_image-next.result c.take_image-next.ensures.next

pub rounds-preserved : goal.rounds-preserved
rounds-preserved c = next_round c.args.self.now (bits_of c.args.state.now) _ c.rounds.counter c.images.counter (bits_of c.images.state) c.images.next c.images.auto.counter-end c.images-test.false c.images.invariant

pub returns-in_default : goal.returns-in_default
returns-in_default c =
    has_ended_there c.args.self.now (bits_of c.args.state.now) _ c.rounds.counter c.images.counter (bits_of c.images.state) c.images.next c.rounds-test.true c.images-test.true c.images.invariant
    (λ number is. c.in_default.not-Some number is)

pub returns : goal.returns
returns c = has_come_there c.args.self.now (bits_of c.args.state.now) _ c.rounds.counter (bits_of c.rounds.state) c.rounds.next c.rounds.auto.counter-end c.rounds-test.false c.rounds.invariant
