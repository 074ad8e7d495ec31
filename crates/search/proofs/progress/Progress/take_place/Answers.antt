use Rattle.std.proofs.Common.{rules, ◌≡◌, inr, length, Some, refl, sym, subst}
use Rattle.std.specs.Prelude.{slice_get}
use Rattle.std.proofs.lemmas.Option.{slice_get_read}
use Rattle.packed_state.specs.Packed.{bits_of}
use Rattle.search.specs.declared.listing.Place.{Place}
use Rattle.search.specs.declared.listing.Place.TheVariants.{Alike}
use Rattle.search.specs.Progress.{IsPlaceAmong, Appends, TakesPlace}
use Rattle.search.proofs.progress.Progress.take_place.Goals as goal

pub returns-in_ok-add_reached-in-Alike-clause-taken : goal.returns-in_ok-add_reached-in-Alike-clause-taken
returns-in_ok-add_reached-in-Alike-clause-taken g c =
    let states_of = g.L.StateListing.states in
    let old = c.args.self.now in
    let new = c.add_reached-then-len-max_states.new.self in
    let all = old.nodes.items in
    let reached = c.args.reached in
    let is : c.args.place ≡ Alike c.in-Alike.place = c.in-Alike.is in
    let among : IsPlaceAmong (length all) (Alike c.in-Alike.place) = subst (IsPlaceAmong (length all)) is c.requires.place in
    let there : slice_get all c.in-Alike.place ≡ Some c.index-in-Alike.result.now = slice_get_read all (length all) c.in-Alike.place c.index-in-Alike.result.now refl among.0 c.index-in-Alike.ensures in
    let appends : Appends states_of old new (bits_of reached.state.now) reached.node reached.estimate reached.rest c.args.max_states c.in-Alike.place = record {
      other = c.index-in-Alike.result.now;
      there = there;
      expanded = search rules;
      room = search rules;
      states = search rules;
      nodes = search rules;
      open_list = search rules;
      bases = search rules;
    } in
    subst (λ (p : Place). TakesPlace states_of old new (bits_of reached.state.now) reached.node reached.estimate reached.rest c.args.max_states p) (sym is) (inr appends)
