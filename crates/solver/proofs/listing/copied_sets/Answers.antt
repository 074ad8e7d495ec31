use Rattle.std.proofs.Common.{◌∙◌, [], length, sym, ap, subst, arith}
use Rattle.std.proofs.lemmas.List.{length-take-le}
use Rattle.packed_state.specs.Packed.{bits_of}
use Rattle.packed_state.specs.PooledView.{pooled_states}
use Rattle.packed_state.specs.Store.{IsPlaced}
use Rattle.packed_state.proofs.PackedLemmas.{length-set_of}
use Rattle.solver.proofs.LoopLemmas.{one_more_copied}
use Rattle.solver.proofs.listing.copied_sets.Goals as goal

pub loop-place-init : goal.loop-place-init
loop-place-init g c = record {
  sets = c.in_ok-sets.ensures.states;
  width = c.in_ok-sets.ensures.width ∙ c.width.ensures;
  state = ap length c.in_ok-state.ensures ∙ length-set_of c.width-2.result [] ∙ c.width-2.ensures;
}

pub overflow_cast-place : goal.overflow_cast-place
overflow_cast-place g c = omega (arith, c.loop-place-test.true, c.len-place-end.ensures, c.requires)

pub insert_copy_if_new-requires-clause-width : goal.insert_copy_if_new-requires-clause-width
insert_copy_if_new-requires-clause-width g c = c.get.ensures.width ∙ sym c.loop-place.invariant.width

pub insert_copy_if_new-requires-clause-room : goal.insert_copy_if_new-requires-clause-room
insert_copy_if_new-requires-clause-room g c =
    let states = g.L.StateListing.states c.args.listing.now in
    let few = length-take-le c.loop-place.place states (omega (arith, c.loop-place-test.true, c.len-place-end.ensures)) in
    omega (arith, ap length c.loop-place.invariant.sets, few, c.loop-place-test.true, c.len-place-end.ensures, c.requires)

pub loop-place-preserved : goal.loop-place-preserved
loop-place-preserved g c =
    let listing = c.args.listing.now in
    let states = g.L.StateListing.states listing in
    let new = pooled_states c.insert_copy_if_new.new.self in
    let bits = bits_of c.get.new.into in
    let (place, is_new) = c.in_ok-insert_copy_if_new.field-0 in
    record {
      sets = one_more_copied states (g.met.L.StateListing.distinct listing) c.loop-place.place bits c.get.ensures.state new place is_new
          (subst (λ old. IsPlaced old new bits place is_new) c.loop-place.invariant.sets c.in_ok-insert_copy_if_new.ensures.ok);
      width = c.in_ok-insert_copy_if_new.ensures.width ∙ c.loop-place.invariant.width;
      state = c.get.ensures.width;
    }
