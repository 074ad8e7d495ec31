-- What is so of listed states and the keys of their classes, where one joins them or takes another's place.
use Rattle.std.proofs.Common.{◌≡◌, ◌∙◌, ℕ, ◌<◌, Bool, true, false, List, [], ◌∷◌, ◌++◌, length, set, get_or, Some, refl, sym, ap, subst, arith}
use Rattle.std.specs.Prelude.{slice_get, vec_len, Contains}
use Rattle.std.proofs.lemmas.Option.{slice_get_read, slice_get_within, same_Some}
use Rattle.packed_state.specs.Packed.{bits_of}
use Rattle.packed_state.specs.PooledView.{pooled_width, pooled_states}
use Rattle.packed_state.specs.Store.{AreDistinct, IsPlaced}
use Rattle.packed_state.proofs.StoreLemmas.{Contains-at}
use Rattle.search.proofs.Lists.{get-push_new, get_exists}
use Rattle.search.specs.Listing.{IsAlikeAt, IsPlacedBy}
use Rattle.symmetries.specs.declared.representatives.Representatives.{Representatives}
use Rattle.symmetries.specs.Representatives.{atoms_of}
use Rattle.search_spaces.specs.declared.orbits.Orbits.{Orbits}
use Rattle.search_spaces.specs.States.{states_width, states_of}
use Rattle.search_spaces.specs.RecentStates.{recent_width, IsNoted, AreNotedByKeys}
use Rattle.search_spaces.specs.ListedByKeys.{AreListedByKeys}
use Rattle.search.specs.declared.listing.Place.{Place}
use Rattle.search.specs.declared.listing.Place.TheVariants.{New, Listed, Alike}
use Rattle.search_spaces.specs.Orbits.{key_by, states_in, is_current_of, IsLinked, IsPlacedIn}
use Rattle.search_spaces.proofs.ByKeys.{none_listed, class_begun, one_superseded, one_replaced, not_listed, neither_listed, superseded_at, not_superseded}

-- the same lists are listed by the same keys
carried : (key_of : List Bool → List Bool) (width : ℕ) (states states' keys keys' : List (List Bool)) (current current' : List ℕ) (superseded superseded' : List (List Bool)) (places places' : List ℕ)
    → states' ≡ states → keys' ≡ keys → current' ≡ current → superseded' ≡ superseded → places' ≡ places
    → AreListedByKeys key_of width states keys current superseded places → AreListedByKeys key_of width states' keys' current' superseded' places'
carried key_of width states states' keys keys' current current' superseded superseded' places places' a b c d e are =
    subst (λ (xs : List (List Bool)). AreListedByKeys key_of width xs keys' current' superseded' places') (sym a)
    (subst (λ (xs : List (List Bool)). AreListedByKeys key_of width states xs current' superseded' places') (sym b)
    (subst (λ (xs : List ℕ). AreListedByKeys key_of width states keys xs superseded' places') (sym c)
    (subst (λ (xs : List (List Bool)). AreListedByKeys key_of width states keys current xs places') (sym d)
    (subst (λ (xs : List ℕ). AreListedByKeys key_of width states keys current superseded xs) (sym e) are))))

-- what is put into a list that lacks it is at its end
pub put_new : {S : Type 0} (old new : List S) (s : S) (place : ℕ) (is_new : Bool) → (Contains old s → ⊥) → IsPlaced old new s place is_new → new ≡ old ++ s ∷ []
put_new old new s place true lacks placed = placed.1
put_new old new s place false lacks placed = absurd (lacks (Contains-at old place s placed.0))

pub linked_none : (orbits : Orbits) → length (bits_of orbits.key) ≡ length (atoms_of orbits.representatives.now) → states_width orbits.states ≡ length (atoms_of orbits.representatives.now)
    → pooled_width orbits.keys ≡ length (atoms_of orbits.representatives.now) → pooled_width orbits.superseded ≡ length (atoms_of orbits.representatives.now) → states_in orbits ≡ [] → pooled_states orbits.keys ≡ [] → orbits.current.items ≡ []
    → pooled_states orbits.superseded ≡ [] → orbits.places.items ≡ [] → recent_width orbits.recent ≡ length (atoms_of orbits.representatives.now)
    → ((s : List Bool) (class : ℕ) → IsNoted orbits.recent s class → ⊥) → IsLinked orbits
linked_none orbits key_width rows_width keys_width superseded_width states keys current superseded places noted_width none = record {
  key_width = key_width;
  rows_width = rows_width;
  keys_width = keys_width;
  superseded_width = superseded_width;
  listed = carried (key_by orbits.representatives.now) (length (atoms_of orbits.representatives.now)) [] _ [] _ [] _ [] _ [] _ states keys current superseded places
      (none_listed (key_by orbits.representatives.now) (length (atoms_of orbits.representatives.now)));
  noted_width = noted_width;
  noted = λ s class noted. absurd (none s class noted);
}

-- where a state was put, it is
pub put_there : {S : Type 0} (old new : List S) (s : S) (place : ℕ) (is_new : Bool) → IsPlaced old new s place is_new → slice_get new place ≡ Some s
put_there old new s place true placed = (λ i. slice_get (placed.1 i) (placed.2 i)) ∙ get-push_new old s
put_there old new s place false placed = ap (λ xs. slice_get xs place) placed.1 ∙ placed.0

-- ---- a change

-- all but some lists is as it was
pub record IsLike (old new : Orbits) : Type 0 where
  pub representatives : new.representatives ≡ old.representatives
  pub key_width : length (bits_of new.key) ≡ length (atoms_of new.representatives.now)
  pub rows_width : states_width new.states ≡ states_width old.states
  pub keys_width : pooled_width new.keys ≡ pooled_width old.keys
  pub superseded_width : pooled_width new.superseded ≡ pooled_width old.superseded
  pub noted_width : recent_width new.recent ≡ recent_width old.recent
  pub noted : AreNotedByKeys (key_by old.representatives.now) (pooled_states new.keys) new.recent

module _ (old new : Orbits) (like : IsLike old new) (known : IsLinked old) where
  abbrev r : Representatives
  r = old.representatives.now

  abbrev width : ℕ
  width = length (atoms_of r)

  linked_by : AreListedByKeys (key_by r) width (states_in new) (pooled_states new.keys) new.current.items (pooled_states new.superseded) new.places.items → IsLinked new
  linked_by are =
      let wide = ap (λ there. length (atoms_of there.now)) (sym like.representatives) in
      record {
        key_width = like.key_width;
        rows_width = like.rows_width ∙ known.rows_width ∙ wide;
        keys_width = like.keys_width ∙ known.keys_width ∙ wide;
        superseded_width = like.superseded_width ∙ known.superseded_width ∙ wide;
        listed = subst (λ there. AreListedByKeys (key_by there.now) (length (atoms_of there.now)) (states_in new) (pooled_states new.keys) new.current.items (pooled_states new.superseded) new.places.items)
            (sym like.representatives) are;
        noted_width = like.noted_width ∙ known.noted_width ∙ wide;
        noted = subst (λ there. AreNotedByKeys (key_by there.now) (pooled_states new.keys) new.recent) (sym like.representatives) like.noted;
      }

  -- the lists are the same
  pub linked_still : states_in new ≡ states_in old → pooled_states new.keys ≡ pooled_states old.keys → new.current.items ≡ old.current.items → pooled_states new.superseded ≡ pooled_states old.superseded
      → new.places.items ≡ old.places.items → IsLinked new
  linked_still states keys current superseded places = linked_by (carried (key_by r) width _ _ _ _ _ _ _ _ _ _ states keys current superseded places known.listed)

  pub linked_begun : (s : List Bool) → length s ≡ width → (Contains (pooled_states old.keys) (key_by r s) → ⊥)
      → states_in new ≡ states_in old ++ s ∷ [] → pooled_states new.keys ≡ pooled_states old.keys ++ key_by r s ∷ [] → new.current.items ≡ old.current.items ++ length (states_in old) ∷ []
      → pooled_states new.superseded ≡ pooled_states old.superseded → new.places.items ≡ old.places.items → IsLinked new
  linked_begun s wide none states keys current superseded places =
      linked_by (carried (key_by r) width _ _ _ _ _ _ _ _ _ _ states keys current superseded places
      (class_begun (key_by r) width (states_in old) (pooled_states old.keys) old.current.items (pooled_states old.superseded) old.places.items known.listed s wide none))

  module _ (distinct : AreDistinct (pooled_states old.keys)) (class place : ℕ) (s : List Bool) (at_current : slice_get old.current.items class ≡ Some place)
      (alike : IsAlikeAt (key_by r) (states_in old) s place) (none : Contains (states_in old) s → ⊥) (wide : length s ≡ width) where
    pub linked_superseded : slice_get (pooled_states old.keys) class ≡ Some (key_by r s) → states_in new ≡ states_in old ++ s ∷ [] → pooled_states new.keys ≡ pooled_states old.keys
        → new.current.items ≡ set old.current.items class (length (states_in old)) → pooled_states new.superseded ≡ pooled_states old.superseded ++ alike.other ∷ []
        → new.places.items ≡ old.places.items ++ place ∷ [] → IsLinked new
    linked_superseded at_class states keys current superseded places =
        linked_by (carried (key_by r) width _ _ _ _ _ _ _ _ _ _ states keys current superseded places
        (one_superseded (key_by r) width (states_in old) (pooled_states old.keys) old.current.items (pooled_states old.superseded) old.places.items known.listed distinct class place alike.other s
        at_class at_current alike.there none wide))

    pub linked_replaced : states_in new ≡ set (states_in old) place s → pooled_states new.keys ≡ pooled_states old.keys → new.current.items ≡ old.current.items
        → pooled_states new.superseded ≡ pooled_states old.superseded → new.places.items ≡ old.places.items → IsLinked new
    linked_replaced states keys current superseded places =
        linked_by (carried (key_by r) width _ _ _ _ _ _ _ _ _ _ states keys current superseded places
        (one_replaced (key_by r) width (states_in old) (pooled_states old.keys) old.current.items (pooled_states old.superseded) old.places.items known.listed distinct class place alike.other s
        at_current alike.there alike.alike none wide))

-- ---- where a state of a class that has a key is

module _ (orbits : Orbits) (known : IsLinked orbits) (s : List Bool) where
  -- a superseded one is at the place that is noted beside it
  pub past_inside : (past : ℕ) → slice_get (pooled_states orbits.superseded) past ≡ Some s → past < vec_len orbits.places
  past_inside past at =
      let inside = slice_get_within (pooled_states orbits.superseded) past s at in
      let each = known.listed.all_placed in
      omega (arith, inside, each, orbits.places.ok.0)

  pub past_there : (past place : ℕ) → slice_get (pooled_states orbits.superseded) past ≡ Some s → place ≡ get_or orbits.places.items past place → slice_get (states_in orbits) place ≡ Some s
  past_there past place at is =
      let inside = past_inside past at in
      let noted = slice_get_read orbits.places.items (length orbits.places.items) past place refl (omega (arith, inside, orbits.places.ok.0)) is in
      superseded_at (key_by orbits.representatives.now) (length (atoms_of orbits.representatives.now)) (states_in orbits) (pooled_states orbits.keys) orbits.current.items (pooled_states orbits.superseded)
      orbits.places.items known.listed past place s at noted

  module _ (class place : ℕ) (at_class : slice_get (pooled_states orbits.keys) class ≡ Some (key_by orbits.representatives.now s)) (is_place : place ≡ get_or orbits.current.items class place) where
    pub current_there : slice_get orbits.current.items class ≡ Some place
    current_there =
        let inside = slice_get_within (pooled_states orbits.keys) class (key_by orbits.representatives.now s) at_class in
        let each = known.listed.each in
        slice_get_read orbits.current.items (length orbits.current.items) class place refl (omega (arith, inside, each)) is_place

    pub current_inside : place < length (states_in orbits)
    current_inside = known.listed.within class place current_there

    -- the current one of the class is another, and the state is not superseded
    pub alike_there : (slice_get (states_in orbits) place ≡ Some s → ⊥) → (Contains (pooled_states orbits.superseded) s → ⊥) → IsPlacedIn orbits s (Alike place)
    alike_there other not_past =
        let there = get_exists (states_in orbits) place current_inside in (
          neither_listed (key_by orbits.representatives.now) (length (atoms_of orbits.representatives.now)) (states_in orbits) (pooled_states orbits.keys) orbits.current.items
              (pooled_states orbits.superseded) orbits.places.items known.listed s class place at_class current_there other not_past,
          (there.0, there.1, known.listed.keyed class place (key_by orbits.representatives.now s) there.0 at_class current_there there.1),
          (class, current_there),
        )

-- ---- what the calls give

-- a state whose key is there has the place that was found
pub placed_by : (old new : Orbits) (s : List Bool) (max_states : ℕ) (place : Place) → new.representatives ≡ old.representatives → new.states ≡ old.states → IsPlacedIn new s place
    → IsPlacedBy (key_by old.representatives.now) (is_current_of new) (states_in old) (states_in new) s max_states (Some place)
placed_by old new s max_states (New place) by states placed = absurd (placed)
placed_by old new s max_states (Listed place) by states placed =
    let same : states_in new ≡ states_in old = ap states_of states in
    (ap (λ xs. slice_get xs place) (sym same) ∙ placed, same)
placed_by old new s max_states (Alike place) by states placed =
    let same : states_in new ≡ states_in old = ap states_of states in
    let other = placed.1 in (
      subst (λ (xs : List (List Bool)). Contains xs s → ⊥) same placed.0,
      record {
        other = other.0;
        there = ap (λ xs. slice_get xs place) (sym same) ∙ other.1;
        alike = ap (λ there. key_by there.now other.0) (sym by) ∙ other.2 ∙ ap (λ there. key_by there.now s) by;
      },
      placed.2,
      same,
    )

-- a state whose key is not there is not listed
pub lacks : (orbits : Orbits) (s : List Bool) → IsLinked orbits → (Contains (pooled_states orbits.keys) (key_by orbits.representatives.now s) → ⊥) → Contains (states_in orbits) s → ⊥
lacks orbits s known none =
    not_listed (key_by orbits.representatives.now) (length (atoms_of orbits.representatives.now)) (states_in orbits) (pooled_states orbits.keys) orbits.current.items (pooled_states orbits.superseded)
    orbits.places.items known.listed s none

module _ (orbits : Orbits) (known : IsLinked orbits) (s : List Bool) (place : ℕ) (alike : IsAlikeAt (key_by orbits.representatives.now) (states_in orbits) s place) where
  -- the state of its class is the one at its place
  pub other_is : (states : List (List Bool)) → states ≡ states_in orbits → (there : List Bool) → slice_get states place ≡ Some there → there ≡ alike.other
  other_is states same there at = same_Some there alike.other (sym at ∙ ap (λ xs. slice_get xs place) same ∙ alike.there)

  pub other_wide : length alike.other ≡ length (atoms_of orbits.representatives.now)
  other_wide = known.listed.wide place alike.other alike.there

  -- the class of the state has the number of that whose current state is there
  pub class_there : is_current_of orbits place → (class : ℕ) → slice_get (pooled_states orbits.keys) class ≡ Some (key_by orbits.representatives.now s) → slice_get orbits.current.items class ≡ Some place
  class_there current class at_class =
      let inside = slice_get_within orbits.current.items current.0 place current.1 in
      let each = known.listed.each in
      let key = get_exists (pooled_states orbits.keys) current.0 (omega (arith, inside, each)) in
      let same = sym (known.listed.keyed current.0 place key.0 alike.other key.1 current.1 alike.there) ∙ alike.alike in
      let one : current.0 ≡ class = orbits.keys.pooled.stored.distinct current.0 class key.0 key.1 (at_class ∙ ap Some (sym same)) in
      ap (slice_get orbits.current.items) (sym one) ∙ current.1

  -- and that state is not superseded
  pub other_current : (class : ℕ) → slice_get orbits.current.items class ≡ Some place → Contains (pooled_states orbits.superseded) alike.other → ⊥
  other_current class at_current =
      not_superseded (key_by orbits.representatives.now) (length (atoms_of orbits.representatives.now)) (states_in orbits) (pooled_states orbits.keys) orbits.current.items
      (pooled_states orbits.superseded) orbits.places.items known.listed class place alike.other at_current alike.there

  -- its class has a key
  pub has_key : (Contains (pooled_states orbits.keys) (key_by orbits.representatives.now s) → ⊥) → ⊥
  has_key none = known.listed.known place alike.other alike.there (subst (λ (key : List Bool). Contains (pooled_states orbits.keys) key → ⊥) (sym alike.alike) none)
