use Rattle.std.proofs.Common.{◌≡◌, ◌∙◌, ℕ, List, Bool, [], ◌∷◌, ◌++◌, length, set, Some, sym, ap, subst, arith}
use Rattle.std.specs.Prelude.{slice_get, Contains}
use Rattle.std.specs.Global.{Vec}
use Rattle.std.proofs.lemmas.Option.{slice_get_within}
use Rattle.packed_state.specs.declared.pooled.PooledStore.{PooledStore}
use Rattle.packed_state.specs.Packed.{bits_of}
use Rattle.packed_state.specs.PooledView.{pooled_width, pooled_states}
use Rattle.search_spaces.specs.States.{states_width, states_of}
use Rattle.symmetries.specs.Representatives.{atoms_of}
use Rattle.search_spaces.specs.RecentStates.{AreNotedByKeys}
use Rattle.search_spaces.specs.Orbits.{key_by, states_in}
use Rattle.search_spaces.proofs.OrbitLemmas.{put_new, linked_superseded, other_is, other_wide, class_there, other_current, has_key}
use Rattle.search_spaces.proofs.orbits.Orbits.append.Goals as goal
use Rattle.search_spaces.proofs.orbits.Orbits.append.Goals.{After-reserve_one, After-get}

-- the listed states are as before
still_listed : (c : After-reserve_one) → states_of c.reserve_one.new.self ≡ states_in c.args.self.now
still_listed c = c.reserve_one.ensures.states ∙ ap states_of c.class_of.ensures.states

still_wide : (c : After-reserve_one) → states_width c.reserve_one.new.self ≡ length (atoms_of c.args.self.now.representatives.now)
still_wide c = c.reserve_one.ensures.width ∙ ap states_width c.class_of.ensures.states ∙ c.requires.linked.rows_width

-- the state that is superseded is the one of its class
is_other : (c : After-get) → bits_of c.get.new.into ≡ c.requires.alike.other
is_other c =
    other_is c.args.self.now c.requires.linked (bits_of c.args.state.now) c.args.place c.requires.alike (states_of c.reserve_one.new.self) (c.reserve_one.ensures.states ∙ ap states_of c.class_of.ensures.states) (bits_of c.get.new.into)
    c.get.ensures.set

pub get-requires-clause-there : goal.get-requires-clause-there
get-requires-clause-there c =
    let inside = slice_get_within (states_in c.args.self.now) c.args.place c.requires.alike.other c.requires.alike.there in
    omega (arith, inside, ap length (still_listed (goal.at.get-requires-clause-there c).After-reserve_one))

pub get-requires-clause-width : goal.get-requires-clause-width
get-requires-clause-width c =
    c.class_of.ensures.linked.key_width ∙ ap (λ r. length (atoms_of r.now)) c.class_of.ensures.representatives ∙ sym (still_wide (goal.at.get-requires-clause-width c).After-reserve_one)

pub insert_copy_if_new-requires-clause-width : goal.insert_copy_if_new-requires-clause-width
insert_copy_if_new-requires-clause-width c =
    let old = c.args.self.now in
    ap length (is_other (goal.at.insert_copy_if_new-requires-clause-width c).After-get) ∙ other_wide old c.requires.linked (bits_of c.args.state.now) c.args.place c.requires.alike
    ∙ sym c.requires.linked.superseded_width ∙ ap pooled_width (sym c.class_of.ensures.superseded)

pub push_reserved-requires-2-clause-width : goal.push_reserved-requires-2-clause-width
push_reserved-requires-2-clause-width c = c.requires.width ∙ sym (still_wide (goal.at.push_reserved-requires-2-clause-width c).After-reserve_one)

pub push_reserved-requires-2-clause-few : goal.push_reserved-requires-2-clause-few
push_reserved-requires-2-clause-few c = omega (arith, c.requires.room, ap length (still_listed (goal.at.push_reserved-requires-2-clause-few c).After-reserve_one))

pub unreachable-requires : goal.unreachable-requires
unreachable-requires c =
    let old = c.args.self.now in
    has_key old c.requires.linked (bits_of c.args.state.now) c.args.place c.requires.alike
    (subst (λ (keys : List (List Bool)). Contains keys (key_by old.representatives.now (bits_of c.args.state.now)) → ⊥) (ap pooled_states c.class_of.ensures.keys)
    (subst (λ (key : List Bool). Contains (pooled_states c.class_of.new.self.keys) key → ⊥) c.in_default.ensures.class.0 c.in_default.ensures.class.1))

pub index_mut-requires : goal.index_mut-requires
index_mut-requires c =
    let now = c.class_of.new.self in
    let inside = slice_get_within (pooled_states now.keys) c.in-Some.class (key_by c.args.self.now.representatives.now (bits_of c.args.state.now)) c.in-Some.ensures.class in
    let each = c.class_of.ensures.linked.listed.each in
    omega (arith, inside, each, now.current.ok.0)

pub returns-clause-states : goal.returns-clause-states
returns-clause-states c = c.push_reserved-2.ensures.states ∙ ap (λ xs. xs ++ bits_of c.args.state.now ∷ []) (still_listed (goal.at.returns-clause-states c).After-reserve_one)

pub returns-clause-linked : goal.returns-clause-linked
returns-clause-linked c =
    let old = c.args.self.now in
    let now = c.class_of.new.self in
    let s = bits_of c.args.state.now in
    let class = c.in-Some.class in
    let at_class : slice_get (pooled_states old.keys) class ≡ Some (key_by old.representatives.now s) =
    ap (λ (keys : PooledStore). slice_get (pooled_states keys) class) (sym c.class_of.ensures.keys) ∙ c.in-Some.ensures.class in
    let at_current = class_there old c.requires.linked s c.args.place c.requires.alike c.requires.current class at_class in
    let before : states_of c.reserve_one.new.self ≡ states_in old = still_listed (goal.at.returns-clause-linked c).After-reserve_one in
    let long : c.len.result ≡ length (states_in old) = c.len.ensures ∙ ap length before in
    let other = is_other (goal.at.returns-clause-linked c).After-get in
    let past : pooled_states now.superseded ≡ pooled_states old.superseded = ap pooled_states c.class_of.ensures.superseded in
    let lacks : Contains (pooled_states now.superseded) (bits_of c.get.new.into) → ⊥ =
    λ among.
    other_current old c.requires.linked s c.args.place c.requires.alike class at_current
    (subst (λ (x : List Bool). Contains (pooled_states old.superseded) x) other (subst (λ (xs : List (List Bool)). Contains xs (bits_of c.get.new.into)) past among)) in
    linked_superseded old _ (record {
      representatives = c.class_of.ensures.representatives;
      key_width = ap length other ∙ other_wide old c.requires.linked s c.args.place c.requires.alike ∙ ap (λ r. length (atoms_of r.now)) (sym c.class_of.ensures.representatives);
      rows_width = c.push_reserved-2.ensures.width ∙ c.reserve_one.ensures.width ∙ ap states_width c.class_of.ensures.states;
      keys_width = ap pooled_width c.class_of.ensures.keys;
      superseded_width = c.in_ok-insert_copy_if_new.ensures.width ∙ ap pooled_width c.class_of.ensures.superseded;
      noted_width = c.class_of.ensures.linked.noted_width ∙ ap (λ r. length (atoms_of r.now)) c.class_of.ensures.representatives ∙ sym c.requires.linked.noted_width;
      noted = subst (λ r. AreNotedByKeys (key_by r.now) (pooled_states now.keys) now.recent) c.class_of.ensures.representatives c.class_of.ensures.linked.noted;
    }) c.requires.linked old.keys.pooled.stored.distinct class c.args.place s at_current c.requires.alike c.requires.new c.requires.width at_class
    (c.push_reserved-2.ensures.states ∙ ap (λ xs. xs ++ s ∷ []) before)
    (ap pooled_states c.class_of.ensures.keys)
    (λ i. set (c.class_of.ensures.current i).items class (long i))
    (put_new _ _ _ _ _ lacks c.in_ok-insert_copy_if_new.ensures.ok ∙ (λ i. past i ++ other i ∷ []))
    (c.push_reserved.ensures.items ∙ ap (λ xs. xs ++ c.args.place ∷ []) (c.reserve.ensures.items ∙ ap (λ (v : Vec ℕ). v.items) c.class_of.ensures.places))
