use Rattle.std.proofs.Common.{◌≡◌, ◌∙◌, List, Bool, [], ◌∷◌, ◌++◌, length, Some, refl, sym, ap, subst, arith}
use Rattle.std.specs.Prelude.{Contains}
use Rattle.packed_state.specs.Packed.{bits_of}
use Rattle.packed_state.specs.PooledView.{pooled_states}
use Rattle.search_spaces.specs.Orbits.{key_by, states_in}
use Rattle.search_spaces.proofs.OrbitLemmas.{put_new, put_there, linked_begun}
use Rattle.search_spaces.proofs.RecentLemmas.{noted_begun}
use Rattle.search_spaces.proofs.orbits.Orbits.begin_class.Goals as goal

pub push_reserved-requires-2-clause-width : goal.push_reserved-requires-2-clause-width
push_reserved-requires-2-clause-width c = c.requires.width ∙ sym c.requires.linked.rows_width ∙ sym c.reserve_one.ensures.width

pub push_reserved-requires-2-clause-few : goal.push_reserved-requires-2-clause-few
push_reserved-requires-2-clause-few c = omega (arith, c.requires.room, ap length c.reserve_one.ensures.states)

pub returns-clause-states : goal.returns-clause-states
returns-clause-states c = c.push_reserved-2.ensures.states ∙ ap (λ xs. xs ++ bits_of c.args.state.now ∷ []) c.reserve_one.ensures.states

pub returns-clause-linked : goal.returns-clause-linked
returns-clause-linked c =
    let old = c.args.self.now in
    let s = bits_of c.args.state.now in
    let long : c.len-place.result ≡ length (states_in old) = c.len-place.ensures ∙ ap length c.reserve_one.ensures.states in
    let added = put_new _ _ _ _ _ c.requires.new c.in_ok-class.ensures.ok ∙ ap (λ (key : List Bool). pooled_states old.keys ++ key ∷ []) c.requires.key in
    linked_begun old _ (record {
      representatives = refl;
      key_width = c.requires.linked.key_width;
      rows_width = c.push_reserved-2.ensures.width ∙ c.reserve_one.ensures.width;
      keys_width = c.in_ok-class.ensures.width;
      superseded_width = refl;
      noted_width = c.note.ensures.width;
      noted = noted_begun (key_by old.representatives.now) (pooled_states old.keys) _ old.recent c.note.new.self s _ c.requires.linked.noted c.note.ensures.before added
          (put_there _ _ _ _ _ c.in_ok-class.ensures.ok ∙ ap Some c.requires.key);
    }) c.requires.linked s c.requires.width (subst (λ (key : List Bool). Contains (pooled_states old.keys) key → ⊥) c.requires.key c.requires.new)
    (c.push_reserved-2.ensures.states ∙ ap (λ xs. xs ++ s ∷ []) c.reserve_one.ensures.states)
    added
    (c.push_reserved.ensures.items ∙ (λ i. c.reserve.ensures.items i ++ long i ∷ [])) refl refl
