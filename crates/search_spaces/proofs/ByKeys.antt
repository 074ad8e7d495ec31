-- What stays so of a list of states by keys when one joins it, or takes another's place.
use Rattle.std.proofs.Common.{◌≡◌, ◌≢◌, ◌∙◌, ℕ, zero, suc, ◌<◌, ◌⊎◌, inl, inr, Bool, List, [], ◌∷◌, ◌++◌, length, set, Some, refl, sym, ap, subst, arith}
use Rattle.std.specs.Prelude.{slice_get, Contains}
use Rattle.std.proofs.lemmas.List.{length_push, length-set}
use Rattle.std.proofs.lemmas.Option.{slice_get_within, same_Some}
use Rattle.packed_state.specs.Store.{AreDistinct}
use Rattle.packed_state.proofs.StoreLemmas.{place_of, Contains-at, distinct_more}
use Rattle.search.proofs.Lists.{get-push_new, get-push_other, get_exists}
use Rattle.search_spaces.specs.ListedByKeys.{AreListedByKeys}

-- ---- places

-- what a list with one more has at a place
at_push : {X : Type 0} (xs : List X) (x : X) (k : ℕ) (y : X) → slice_get (xs ++ x ∷ []) k ≡ Some y → (slice_get xs k ≡ Some y) ⊎ ((k ≡ length xs) × (x ≡ y))
at_push [] x zero y is = inr (refl, same_Some x y is)
at_push [] x (suc k) y is = absurd (cc)
at_push (z ∷ xs) x zero y is = inl is
at_push (z ∷ xs) x (suc k) y is =
    elim (at_push xs x k y is) [
      | inl before ↦ inl before
      | inr last ↦ inr (ap suc last.0, last.1)
    ]

-- what it has where one takes another's place
pub at_set : {X : Type 0} (xs : List X) (i : ℕ) (x : X) (k : ℕ) (y : X) → slice_get (set xs i x) k ≡ Some y → ((k ≡ i) × (x ≡ y)) ⊎ ((k ≢ i) × (slice_get xs k ≡ Some y))
at_set [] i x k y is = absurd (cc)
at_set (z ∷ xs) zero x zero y is = inl (refl, same_Some x y is)
at_set (z ∷ xs) zero x (suc k) y is = inr (λ e. absurd (omega (arith, e)), is)
at_set (z ∷ xs) (suc i) x zero y is = inr (λ e. absurd (omega (arith, e)), is)
at_set (z ∷ xs) (suc i) x (suc k) y is =
    elim (at_set xs i x k y is) [
      | inl here ↦ inl (ap suc here.0, here.1)
      | inr other ↦ inr (λ e. other.0 (omega (arith, e)), other.1)
    ]

-- what is there has the same of one place
one_there : {X : Type 0} (xs : List X) (k : ℕ) (x y : X) → slice_get xs k ≡ Some x → slice_get xs k ≡ Some y → x ≡ y
one_there xs k x y at at' = same_Some x y (sym at ∙ at')

still_there : {X : Type 0} (xs : List X) (x y : X) → Contains xs y → Contains (xs ++ x ∷ []) y
still_there xs x y among =
    let at = place_of xs y among in
    let within = slice_get_within xs at.0 y at.1 in
    Contains-at (xs ++ x ∷ []) at.0 y (get-push_other xs x at.0 (λ e. absurd (omega (arith, within, e))) ∙ at.1)

last_there : {X : Type 0} (xs : List X) (x y : X) → x ≡ y → Contains (xs ++ x ∷ []) y
last_there xs x y is = Contains-at (xs ++ x ∷ []) (length xs) y (get-push_new xs x ∙ ap Some is)

pub none_listed : (key_of : List Bool → List Bool) (width : ℕ) → AreListedByKeys key_of width [] [] [] [] []
none_listed key_of width = record {
  wide = λ place s at. absurd (cc);
  distinct = λ j k s at_j at_k. absurd (cc);
  counted = refl;
  each = refl;
  within = λ class place at. absurd (cc);
  keyed = λ class place key s at_key at_current at. absurd (cc);
  known = λ place s at none. absurd (cc);
  found = λ place other class s at not_past at_key at_current. absurd (cc);
  all_placed = refl;
  past_within = λ past place at. absurd (cc);
  past_is = λ past place s other at_past at_place at. absurd (cc);
  apart = λ past class place at_place at_current. absurd (cc);
}

module _ (key_of : List Bool → List Bool) (width : ℕ) (states keys : List (List Bool)) (current : List ℕ) (superseded : List (List Bool)) (places : List ℕ)
    (are : AreListedByKeys key_of width states keys current superseded places) where
  -- ---- what is looked up

  -- a class has a current state
  pub current_of : (class : ℕ) (key : List Bool) → slice_get keys class ≡ Some key → (place : ℕ) × (slice_get current class ≡ Some place) × ((s : List Bool) × (slice_get states place ≡ Some s))
  current_of class key at =
      let inside = slice_get_within keys class key at in
      let each = are.each in
      let here = get_exists current class (omega (arith, inside, each)) in
      (here.0, here.1, get_exists states here.0 (are.within class here.0 here.1))

  -- a state without a key is not listed
  pub not_listed : (s : List Bool) → (Contains keys (key_of s) → ⊥) → Contains states s → ⊥
  not_listed s new among = let at = place_of states s among in are.known at.0 s at.1 new

  -- nor is one that is neither current nor superseded
  pub neither_listed : (s : List Bool) (class place : ℕ) → slice_get keys class ≡ Some (key_of s) → slice_get current class ≡ Some place → (slice_get states place ≡ Some s → ⊥)
      → (Contains superseded s → ⊥) → Contains states s → ⊥
  neither_listed s class place at_key at_current other not_past among =
      let at = place_of states s among in
      other (ap (slice_get states) (are.found at.0 place class s at.1 not_past at_key at_current) ∙ at.1)

  -- a superseded state is at its place
  pub superseded_at : (past place : ℕ) (s : List Bool) → slice_get superseded past ≡ Some s → slice_get places past ≡ Some place → slice_get states place ≡ Some s
  superseded_at past place s at_past at_place =
      let there = get_exists states place (are.past_within past place at_place) in
      there.1 ∙ ap Some (are.past_is past place s there.0 at_past at_place there.1)

  -- the current state of a class is not superseded
  pub not_superseded : (class place : ℕ) (s : List Bool) → slice_get current class ≡ Some place → slice_get states place ≡ Some s → Contains superseded s → ⊥
  not_superseded class place s at_current at among =
      let past = place_of superseded s among in
      let inside = slice_get_within superseded past.0 s past.1 in
      let each = are.all_placed in
      let noted = get_exists places past.0 (omega (arith, inside, each)) in
      let same = are.distinct noted.0 place s (superseded_at past.0 noted.0 s past.1 noted.1) at in
      are.apart past.0 class place (noted.1 ∙ ap Some same) at_current

  -- a state is the current one of one class alone
  one_class : AreDistinct keys → (class other place : ℕ) → slice_get current class ≡ Some place → slice_get current other ≡ Some place → class ≡ other
  one_class distinct class other place at at' =
      let s = get_exists states place (are.within class place at) in
      let inside = slice_get_within current class place at in
      let inside' = slice_get_within current other place at' in
      let each = are.each in
      let key = get_exists keys class (omega (arith, inside, each)) in
      let key' = get_exists keys other (omega (arith, inside', each)) in
      let same = sym (are.keyed class place key.0 s.0 key.1 at s.1) ∙ are.keyed other place key'.0 s.0 key'.1 at' s.1 in
      distinct class other key'.0 (key.1 ∙ ap Some same) key'.1

  -- ---- a class begins

  pub class_begun : (s : List Bool) → length s ≡ width → (Contains keys (key_of s) → ⊥)
      → AreListedByKeys key_of width (states ++ s ∷ []) (keys ++ key_of s ∷ []) (current ++ length states ∷ []) superseded places
  class_begun s wide new = record {
    wide = λ place t at.
        elim (at_push states s place t at) [
          | inl before ↦ are.wide place t before
          | inr last ↦ ap length (sym last.1) ∙ wide
        ];
    distinct = distinct_more states s are.distinct (not_listed s new);
    counted =
        let counted = are.counted in
        omega (arith, counted, length_push states s, length_push keys (key_of s));
    each =
        let each = are.each in
        omega (arith, each, length_push current (length states), length_push keys (key_of s));
    within = λ class place at.
        let long = length_push states s in
        elim (at_push current (length states) class place at) [
          | inl before ↦ let inside = are.within class place before in omega (arith, inside, long)
          | inr last ↦ omega (arith, last.1, long)
        ];
    keyed = λ class place key t at_key at_current at.
        let each = are.each in
        elim (at_push current (length states) class place at_current) [
          | inl before ↦
              let inside = are.within class place before in
              let first = slice_get_within current class place before in
              elim (at_push states s place t at) [
                | inl listed ↦
                    elim (at_push keys (key_of s) class key at_key) [
                      | inl there ↦ are.keyed class place key t there before listed
                      | inr end ↦ absurd (omega (arith, first, each, end.0))
                    ]
                | inr end ↦ absurd (omega (arith, inside, end.0))
              ]
          | inr last ↦
              elim (at_push states s place t at) [
                | inl listed ↦ absurd (let inside = slice_get_within states place t listed in omega (arith, inside, last.1))
                | inr end ↦
                    elim (at_push keys (key_of s) class key at_key) [
                      | inl there ↦ absurd (let inside = slice_get_within keys class key there in omega (arith, inside, each, last.0))
                      | inr here ↦ ap key_of (sym end.1) ∙ here.1
                    ]
              ]
        ];
    known = λ place t at none.
        elim (at_push states s place t at) [
          | inl before ↦ are.known place t before (λ among. none (still_there keys (key_of s) (key_of t) among))
          | inr last ↦ none (last_there keys (key_of s) (key_of t) (ap key_of last.1))
        ];
    found = λ place other class t at not_past at_key at_current.
        let each = are.each in
        elim (at_push states s place t at) [
          | inl before ↦
              elim (at_push keys (key_of s) class (key_of t) at_key) [
                | inl there ↦
                    let inside = slice_get_within keys class (key_of t) there in
                    elim (at_push current (length states) class other at_current) [
                      | inl noted ↦ are.found place other class t before not_past there noted
                      | inr end ↦ absurd (omega (arith, inside, each, end.0))
                    ]
                | inr end ↦ absurd (are.known place t before (subst (λ (key : List Bool). Contains keys key → ⊥) end.1 new))
              ]
          | inr last ↦
              elim (at_push keys (key_of s) class (key_of t) at_key) [
                | inl there ↦ absurd (new (Contains-at keys class (key_of s) (there ∙ ap (λ (x : List Bool). Some (key_of x)) (sym last.1))))
                | inr end ↦
                    elim (at_push current (length states) class other at_current) [
                      | inl noted ↦ absurd (let inside = slice_get_within current class other noted in omega (arith, inside, each, end.0))
                      | inr here ↦ sym here.1 ∙ sym last.0
                    ]
              ]
        ];
    all_placed = are.all_placed;
    past_within = λ past place at. let inside = are.past_within past place at in omega (arith, inside, length_push states s);
    past_is = λ past place t other at_past at_place at.
        let inside = are.past_within past place at_place in
        elim (at_push states s place other at) [
          | inl before ↦ are.past_is past place t other at_past at_place before
          | inr last ↦ absurd (omega (arith, inside, last.0))
        ];
    apart = λ past class place at_place at_current.
        let inside = are.past_within past place at_place in
        elim (at_push current (length states) class place at_current) [
          | inl before ↦ are.apart past class place at_place before
          | inr last ↦ absurd (omega (arith, inside, last.1))
        ];
  }

  -- ---- one joins beside the current one of its class

  pub one_superseded : AreDistinct keys → (class place : ℕ) (old s : List Bool) → slice_get keys class ≡ Some (key_of s) → slice_get current class ≡ Some place → slice_get states place ≡ Some old
      → (Contains states s → ⊥) → length s ≡ width
      → AreListedByKeys key_of width (states ++ s ∷ []) keys (set current class (length states)) (superseded ++ old ∷ []) (places ++ place ∷ [])
  one_superseded distinct class place old s at_class at_place there new wide =
      let inside_here : place < length states = slice_get_within states place old there in
      record {
        wide = λ p t at.
            elim (at_push states s p t at) [
              | inl before ↦ are.wide p t before
              | inr last ↦ ap length (sym last.1) ∙ wide
            ];
        distinct = distinct_more states s are.distinct new;
        counted =
            let counted = are.counted in
            omega (arith, counted, length_push states s, length_push superseded old);
        each =
            let each = are.each in
            omega (arith, each, length-set current class (length states));
        within = λ c p at.
            let long = length_push states s in
            elim (at_set current class (length states) c p at) [
              | inl here ↦ omega (arith, here.1, long)
              | inr other ↦ let inside = are.within c p other.1 in omega (arith, inside, long)
            ];
        keyed = λ c p key t at_key at_current at.
            elim (at_set current class (length states) c p at_current) [
              | inl here ↦
                  elim (at_push states s p t at) [
                    | inl listed ↦ absurd (let inside = slice_get_within states p t listed in omega (arith, inside, here.1))
                    | inr end ↦ ap key_of (sym end.1) ∙ one_there keys class (key_of s) key at_class (ap (slice_get keys) (sym here.0) ∙ at_key)
                  ]
              | inr other ↦
                  let inside = are.within c p other.1 in
                  elim (at_push states s p t at) [
                    | inl listed ↦ are.keyed c p key t at_key other.1 listed
                    | inr end ↦ absurd (omega (arith, inside, end.0))
                  ]
            ];
        known = λ p t at none.
            elim (at_push states s p t at) [
              | inl before ↦ are.known p t before none
              | inr last ↦ none (Contains-at keys class (key_of t) (at_class ∙ ap (λ (x : List Bool). Some (key_of x)) last.1))
            ];
        found = λ p other c t at not_past at_key at_current.
            elim (at_push states s p t at) [
              | inl before ↦
                  elim (at_set current class (length states) c other at_current) [
                    | inl here ↦
                        let same : place ≡ p =
                        are.found p place class t before (λ among. not_past (still_there superseded old t among)) (ap (slice_get keys) (sym here.0) ∙ at_key) at_place in
                        absurd (not_past (last_there superseded old t (one_there states p old t (ap (slice_get states) (sym same) ∙ there) before)))
                    | inr noted ↦ are.found p other c t before (λ among. not_past (still_there superseded old t among)) at_key noted.1
                  ]
              | inr last ↦
                  elim (at_set current class (length states) c other at_current) [
                    | inl here ↦ sym here.1 ∙ sym last.0
                    | inr noted ↦ absurd (noted.0 (distinct c class (key_of t) at_key (at_class ∙ ap (λ (x : List Bool). Some (key_of x)) last.1)))
                  ]
            ];
        all_placed =
            let each = are.all_placed in
            omega (arith, each, length_push places place, length_push superseded old);
        past_within = λ past p at.
            let long = length_push states s in
            elim (at_push places place past p at) [
              | inl before ↦ let inside = are.past_within past p before in omega (arith, inside, long)
              | inr last ↦ omega (arith, inside_here, last.1, long)
            ];
        past_is = λ past p t other at_past at_noted at.
            let each = are.all_placed in
            elim (at_push places place past p at_noted) [
              | inl noted ↦
                  let inside = are.past_within past p noted in
                  let first = slice_get_within places past p noted in
                  elim (at_push states s p other at) [
                    | inl listed ↦
                        elim (at_push superseded old past t at_past) [
                          | inl before ↦ are.past_is past p t other before noted listed
                          | inr end ↦ absurd (omega (arith, first, each, end.0))
                        ]
                    | inr end ↦ absurd (omega (arith, inside, end.0))
                  ]
              | inr last ↦
                  elim (at_push superseded old past t at_past) [
                    | inl before ↦ absurd (let first = slice_get_within superseded past t before in omega (arith, first, each, last.0))
                    | inr here ↦
                        elim (at_push states s p other at) [
                          | inl listed ↦ sym (one_there states p old other (ap (slice_get states) (sym last.1) ∙ there) listed) ∙ here.1
                          | inr end ↦ absurd (omega (arith, inside_here, last.1, end.0))
                        ]
                  ]
            ];
        apart = λ past c p at_noted at_current.
            elim (at_push places place past p at_noted) [
              | inl noted ↦
                  let inside = are.past_within past p noted in
                  elim (at_set current class (length states) c p at_current) [
                    | inl here ↦ absurd (omega (arith, inside, here.1))
                    | inr other ↦ are.apart past c p noted other.1
                  ]
              | inr last ↦
                  elim (at_set current class (length states) c p at_current) [
                    | inl here ↦ absurd (omega (arith, inside_here, last.1, here.1))
                    | inr other ↦ other.0 (one_class distinct c class place (other.1 ∙ ap Some (sym last.1)) at_place)
                  ]
            ];
      }

  -- ---- one takes the place of the current one of its class

  pub one_replaced : AreDistinct keys → (class place : ℕ) (old s : List Bool) → slice_get current class ≡ Some place → slice_get states place ≡ Some old → key_of old ≡ key_of s
      → (Contains states s → ⊥) → length s ≡ width → AreListedByKeys key_of width (set states place s) keys current superseded places
  one_replaced distinct class place old s at_place there alike new wide = record {
    wide = λ p t at.
        elim (at_set states place s p t at) [
          | inl here ↦ ap length (sym here.1) ∙ wide
          | inr other ↦ are.wide p t other.1
        ];
    distinct = λ j k t at_j at_k.
        elim (at_set states place s j t at_j) [
          | inl one ↦
              elim (at_set states place s k t at_k) [
                | inl two ↦ one.0 ∙ sym two.0
                | inr other ↦ absurd (new (Contains-at states k s (other.1 ∙ ap Some (sym one.1))))
              ]
          | inr first ↦
              elim (at_set states place s k t at_k) [
                | inl two ↦ absurd (new (Contains-at states j s (first.1 ∙ ap Some (sym two.1))))
                | inr second ↦ are.distinct j k t first.1 second.1
              ]
        ];
    counted =
        let counted = are.counted in
        omega (arith, counted, length-set states place s);
    each = are.each;
    within = λ c p at. let inside = are.within c p at in omega (arith, inside, length-set states place s);
    keyed = λ c p key t at_key at_current at.
        elim (at_set states place s p t at) [
          | inl here ↦ ap key_of (sym here.1) ∙ sym alike ∙ are.keyed c place key old at_key (at_current ∙ ap Some here.0) there
          | inr other ↦ are.keyed c p key t at_key at_current other.1
        ];
    known = λ p t at none.
        elim (at_set states place s p t at) [
          | inl here ↦ are.known place old there (subst (λ (key : List Bool). Contains keys key → ⊥) (ap key_of (sym here.1) ∙ sym alike) none)
          | inr other ↦ are.known p t other.1 none
        ];
    found = λ p other c t at not_past at_key at_current.
        elim (at_set states place s p t at) [
          | inl here ↦
              let inside = slice_get_within current class place at_place in
              let each = are.each in
              let key = get_exists keys class (omega (arith, inside, each)) in
              let is_key : key.0 ≡ key_of t = sym (are.keyed class place key.0 old key.1 at_place there) ∙ alike ∙ ap key_of here.1 in
              let same : c ≡ class = distinct c class (key_of t) at_key (key.1 ∙ ap Some is_key) in
              one_there current class other place (ap (slice_get current) (sym same) ∙ at_current) at_place ∙ sym here.0
          | inr before ↦ are.found p other c t before.1 not_past at_key at_current
        ];
    all_placed = are.all_placed;
    past_within = λ past p at. let inside = are.past_within past p at in omega (arith, inside, length-set states place s);
    past_is = λ past p t other at_past at_noted at.
        elim (at_set states place s p other at) [
          | inl here ↦ absurd (are.apart past class place (at_noted ∙ ap Some here.0) at_place)
          | inr before ↦ are.past_is past p t other at_past at_noted before.1
        ];
    apart = are.apart;
  }
