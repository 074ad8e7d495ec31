use Rattle.std.proofs.Common.{◌∙◌, ◌<◌, ◌≤◌, length, sym, ap, subst, arith}
use Rattle.std.specs.Prelude.{slice_index}
use Rattle.std.proofs.lemmas.List.{take_all}
use Rattle.packed_state.specs.Packed.{bits_of}
use Rattle.symmetries.specs.Apart.{is_among}
use Rattle.symmetries.specs.Representatives.{swaps_of}
use Rattle.symmetries.proofs.Kept.{stays_wide, neighbour_inside, neighbour_first, first_beyond}
use Rattle.symmetries.proofs.representatives.Representatives.take_image.Goals as goal

pub comes_before-requires-clause-number : goal.comes_before-requires-clause-number
comes_before-requires-clause-number c =
    subst (λ l. slice_index l c.loop-neighbour.neighbour-index < length (swaps_of c.args.self.now)) (sym c.as_slice-neighbour-items.ensures.value)
    (neighbour_inside c.args.self.now (bits_of c.args.state.now) c.args.number c.requires.first c.index-lowest.result.now c.index-lowest.ensures c.loop-neighbour.neighbour-index)

pub comes_before-requires-clause-wide : goal.comes_before-requires-clause-wide
comes_before-requires-clause-wide c =
    stays_wide c.args.self.now (bits_of c.args.state.now) (bits_of c.exchange.new.state) c.args.number c.exchange.ensures ∙ c.requires.wide

pub next_before-requires : goal.next_before-requires
next_before-requires c =
    stays_wide c.args.self.now (bits_of c.args.state.now) (bits_of c.exchange.new.state) c.args.number c.exchange.ensures ∙ c.requires.wide

pub returns-then-comes_before-clause-next : goal.returns-then-comes_before-clause-next
returns-then-comes_before-clause-next c =
    let place = c.loop-neighbour.neighbour-index in
    neighbour_first c.args.self.now (bits_of c.args.state.now) c.args.number c.requires.first c.index-lowest.result.now c.index-lowest.ensures (bits_of c.exchange.new.state) c.exchange.ensures
    place (slice_index c.as_slice-neighbour-items.result.now place) (ap (λ l. slice_index l place) c.as_slice-neighbour-items.ensures.value) c.loop-neighbour.invariant
    (sym c.comes_before.ensures ∙ c.if-comes_before.true)

pub returns-clause-next : goal.returns-clause-next
returns-clause-next c =
    let place = c.loop-neighbour.neighbour-index in
    let numbers = c.index-lowest.result.now.numbers.items in
    let same = ap length c.as_slice-neighbour-items.ensures.value in
    let past : length numbers ≤ place = omega (arith, same, c.loop-neighbour-test.false) in
    first_beyond c.args.self.now (bits_of c.args.state.now) c.args.number c.requires.first c.index-lowest.result.now c.index-lowest.ensures (bits_of c.exchange.new.state) c.exchange.ensures
    (λ n at. c.loop-neighbour.invariant n (ap (λ l. is_among l n) (take_all place numbers past) ∙ at)) c.next_before.result c.next_before.ensures
