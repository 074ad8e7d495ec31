use Rattle.std.proofs.Common.{[], length, take, sym, ap, ◌∙◌, subst, arith}
use Rattle.std.proofs.lemmas.List.{length-map, length-take-le}
use Rattle.packed_state.specs.Packed.{bits_of}
use Rattle.packed_state.specs.Sets.{at_width}
use Rattle.packed_state.specs.Store.{IsPlaced}
use Rattle.packed_state.specs.PooledView.{pooled_states, pooled_width}
use Rattle.packed_state.proofs.PackedLemmas.{length-set_of}
use Rattle.certificate.proofs.WideningLemmas.{few_sets, is_below_at, length-at_width, lengths_more, one_more_wide}
use Rattle.certificate.proofs.widening.widened.Goals as goal

pub loop-place-init : goal.loop-place-init
loop-place-init c = record {
  wide = c.in_ok-wide.ensures.width;
  sets = c.in_ok-wide.ensures.states;
  set = ap length c.in_ok-set.ensures ∙ length-set_of c.width.result [] ∙ c.width.ensures;
  lengths = λ k d within. absurd (omega (arith, within));
}

pub overflow_cast-place : goal.overflow_cast-place
overflow_cast-place c = omega (arith, c.loop-place-test.true, few_sets c.args.sets.now, c.len-place-end.ensures)

pub with_width-requires : goal.with_width-requires
with_width-requires c = is_below_at c.args.width (pooled_states c.args.sets.now) c.requires.within c.loop-place.place (bits_of c.get.new.into) c.get.ensures.set

pub insert_if_new-requires-clause-width : goal.insert_if_new-requires-clause-width
insert_if_new-requires-clause-width c = ap length c.in_ok-with_width.ensures ∙ length-at_width c.args.width (bits_of c.get.new.into) ∙ sym c.loop-place.invariant.wide

pub insert_if_new-requires-clause-room : goal.insert_if_new-requires-clause-room
insert_if_new-requires-clause-room c =
    let sets = pooled_states c.args.sets.now in
    let few = few_sets c.args.sets.now in
    omega (
      arith,
      ap length c.loop-place.invariant.sets ∙ length-map (take c.loop-place.place sets) (at_width c.args.width),
      length-take-le c.loop-place.place sets (omega (arith, c.loop-place-test.true, c.len-place-end.ensures)),
      c.loop-place-test.true,
      c.len-place-end.ensures,
      few,
    )

pub loop-place-preserved : goal.loop-place-preserved
loop-place-preserved c =
    let store = c.args.sets.now in
    let sets = pooled_states store in
    let set = bits_of c.get.new.into in
    let new = pooled_states c.insert_if_new.new.self in
    let (place, is_new) = c.in_ok-insert_if_new.field-0 in
    let so_far = c.loop-place.invariant in
    record {
      wide = c.in_ok-insert_if_new.ensures.width ∙ so_far.wide;
      sets = one_more_wide (pooled_width store) c.args.width sets store.pooled.stored.distinct c.requires.within c.loop-place.place set c.get.ensures.set c.get.ensures.width so_far.lengths new place is_new
          (subst (λ old. IsPlaced old new (at_width c.args.width set) place is_new) so_far.sets
          (subst (λ bits. IsPlaced (pooled_states c.loop-place.wide) new bits place is_new) c.in_ok-with_width.ensures c.in_ok-insert_if_new.ensures.ok));
      set = c.get.ensures.width;
      lengths = lengths_more (pooled_width store) c.args.width sets store.pooled.stored.distinct c.requires.within c.loop-place.place set c.get.ensures.set c.get.ensures.width so_far.lengths;
    }
