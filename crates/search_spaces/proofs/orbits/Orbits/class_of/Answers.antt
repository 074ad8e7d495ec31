use Rattle.std.proofs.Common.{◌≡◌, ◌∙◌, Some, refl, sym, ap}
use Rattle.std.specs.Prelude.{slice_get}
use Rattle.packed_state.specs.Packed.{bits_of}
use Rattle.packed_state.specs.PooledView.{pooled_states}
use Rattle.search_spaces.specs.Orbits.{key_by}
use Rattle.search_spaces.proofs.OrbitLemmas.{linked_still}
use Rattle.search_spaces.proofs.RecentLemmas.{noted_more}
use Rattle.search_spaces.proofs.orbits.Orbits.class_of.Goals as goal

pub returns-clause-linked : goal.returns-clause-linked
returns-clause-linked c =
    let now = c.represent.new.self in
    let linked = c.represent.ensures.linked in
    let s = bits_of c.args.state.now in
    let at : slice_get (pooled_states now.keys) c.in_ok-class.class ≡ Some (key_by now.representatives.now s) =
    c.in_ok-class.ensures ∙ ap Some (c.represent.ensures.key ∙ ap (λ there. key_by there.now s) (sym c.represent.ensures.representatives)) in
    linked_still now _ (record {
      representatives = refl;
      key_width = linked.key_width;
      rows_width = refl;
      keys_width = refl;
      superseded_width = refl;
      noted_width = c.note.ensures.width;
      noted = noted_more (key_by now.representatives.now) (pooled_states now.keys) now.recent c.note.new.self s c.in_ok-class.class linked.noted c.note.ensures.before at;
    }) linked refl refl refl refl refl
