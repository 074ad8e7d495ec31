-- How the cheapest states of a listing are found, one state after another.
use Rattle.std.proofs.Common.{◌≡◌, ◌≢◌, ◌∙◌, ℕ, zero, suc, ◌+◌, ◌<◌, ◌≤◌, ◌⊎◌, Bool, true, false, List, [], ◌∷◌, ◌++◌, length, Some, inl, inr, refl, sym, ap, subst, arith}
use Rattle.std.specs.Prelude.{Contains, MatchBool, slice_get, slice_set}
use Rattle.std.proofs.lemmas.Bool.{cases_eq}
use Rattle.std.proofs.lemmas.Option.{same_Some}
use Rattle.std.proofs.lemmas.List.{length-append}
use Rattle.std.proofs.lemmas.List.Elements.{Contains-append_left, Contains-append_right}
use Rattle.packed_state.specs.Store.{AreDistinct, IsPlaced}
use Rattle.model.proofs.ListLemmas.{Contains-got, Contains-here}
use Rattle.cert_checker.specs.CheapestPlaces.{AreCheapest}

-- ---- lists that change

-- an element of a list with one more behind
pushed-cases : {X : Type 0} (xs : List X) (y : X) (k : ℕ) (x : X) → slice_get (xs ++ y ∷ []) k ≡ Some x → ((k < length xs) × (slice_get xs k ≡ Some x)) ⊎ ((k ≡ length xs) × (y ≡ x))
pushed-cases [] y zero x at = inr (refl, same_Some y x at)
pushed-cases [] y (suc k) x at = absurd (cc)
pushed-cases (z ∷ xs) y zero x at = inl (omega arith, at)
pushed-cases (z ∷ xs) y (suc k) x at =
    elim (pushed-cases xs y k x at) [
      | inl (below, there) ↦ inl (omega (arith, below), there)
      | inr (last, is) ↦ inr (ap suc last, is)
    ]

-- an element of a list in which one was changed
set-cases : {X : Type 0} (xs : List X) (j : ℕ) (y : X) (k : ℕ) (x : X) → slice_get (slice_set xs j y) k ≡ Some x → ((k ≡ j) × (y ≡ x)) ⊎ ((k ≢ j) × (slice_get xs k ≡ Some x))
set-cases [] j y k x at = absurd (cc)
set-cases (z ∷ xs) zero y zero x at = inl (refl, same_Some y x at)
set-cases (z ∷ xs) zero y (suc k) x at = inr (λ same. omega (arith, same), at)
set-cases (z ∷ xs) (suc j) y zero x at = inr (λ same. omega (arith, same), at)
set-cases (z ∷ xs) (suc j) y (suc k) x at =
    elim (set-cases xs j y k x at) [
      | inl (same, is) ↦ inl (ap suc same, is)
      | inr (other, there) ↦ inr (λ same. other (omega (arith, same)), there)
    ]

pub length-set : {X : Type 0} (xs : List X) (j : ℕ) (y : X) → length (slice_set xs j y) ≡ length xs
length-set [] j y = refl
length-set (x ∷ xs) zero y = refl
length-set (x ∷ xs) (suc j) y = ap suc (length-set xs j y)

module _ (key : List Bool → List Bool) (states : List (List Bool)) (costs : List ℕ) where
  -- none so far
  none_yet : AreCheapest key states costs 0 [] []
  none_yet = record {
    as_many = refl;
    few = omega arith;
    known = λ place bits below there. absurd (omega (arith, below));
    within = λ at place there. absurd (cc);
    of_the_key = λ at place bits k has there listed. absurd (cc);
    least = λ at place other bits cost lowest below has there listed costs_other costs_place. absurd (omega (arith, below));
  }

  pub none_by : (keys : List (List Bool)) (places : List ℕ) → keys ≡ [] → places ≡ [] → AreCheapest key states costs 0 keys places
  none_by keys places no_keys no_places = subst (λ keys. AreCheapest key states costs 0 keys places) (sym no_keys) (subst (λ places. AreCheapest key states costs 0 [] places) (sym no_places) none_yet)

  -- ---- one state more

  module _ (count : ℕ) (keys : List (List Bool)) (places : List ℕ) (before : AreCheapest key states costs count keys places)
      (bits : List Bool) (here : slice_get states count ≡ Some bits) where
    -- the state at a place below the new count is an earlier one, or this
    one_of : (place : ℕ) (other : List Bool) → place < count + 1 → slice_get states place ≡ Some other → (place < count) ⊎ ((place ≡ count) × (bits ≡ other))
    one_of place other below there =
        elim (cases_eq place count) [
          | inl same ↦ inr (same, same_Some bits other (sym here ∙ sym (ap (slice_get states) same) ∙ there))
          | inr differs ↦ inl (omega (arith, below, differs))
        ]

    -- of a key that was not known
    pub of_new_key : ¬ Contains keys (key bits) → AreCheapest key states costs (count + 1) (keys ++ key bits ∷ []) (places ++ count ∷ [])
    of_new_key new = record {
      as_many = omega (arith, length-append places (count ∷ []), length-append keys (key bits ∷ []), before.as_many);
      few = let low = before.few in omega (arith, length-append keys (key bits ∷ []), low);
      known = λ place other below there unknown.
          elim (one_of place other below there) [
            | inl earlier ↦ before.known place other earlier there (λ among. unknown (Contains-append_left keys (key bits ∷ []) (key other) among))
            | inr (_, same) ↦ unknown (Contains-append_right keys (key bits ∷ []) (key other) (subst (λ k. Contains (key bits ∷ []) k) (ap key same) (Contains-here (key bits) [])))
          ];
      within = λ at place there.
          elim (pushed-cases places count at place there) [
            | inl (_, old) ↦ let low = before.within at place old in omega (arith, low)
            | inr (_, same) ↦ omega (arith, same)
          ];
      of_the_key = λ at place other k has there listed.
          elim (pushed-cases places count at place there) [
            | inl (low, old) ↦ elim (pushed-cases keys (key bits) at k has) [
              | inl (_, old_key) ↦ before.of_the_key at place other k old_key old listed
              | inr (last, _) ↦ absurd (omega (arith, low, last, before.as_many))
            ]
            | inr (last, same) ↦ elim (pushed-cases keys (key bits) at k has) [
              | inl (low, _) ↦ absurd (omega (arith, low, last, before.as_many))
              | inr (_, is_key) ↦ ap key (same_Some other bits (sym listed ∙ sym (ap (slice_get states) same) ∙ here)) ∙ is_key
            ]
          ];
      least = λ at place other those cost lowest below has there listed cost_other cost_place.
          elim (pushed-cases keys (key bits) at (key those) has) [
            | inl (low, old_key) ↦ elim (one_of other those below listed) [
              | inl earlier ↦ elim (pushed-cases places count at place there) [
                | inl (_, old) ↦ before.least at place other those cost lowest earlier old_key old listed cost_other cost_place
                | inr (last, _) ↦ absurd (omega (arith, low, last, before.as_many))
              ]
              | inr (_, same) ↦ absurd (new (subst (Contains keys) (sym (ap key same)) (Contains-got keys at (key those) old_key)))
            ]
            | inr (last, is_key) ↦ elim (one_of other those below listed) [
              | inl earlier ↦ absurd (before.known other those earlier listed (λ among. new (subst (Contains keys) (sym is_key) among)))
              | inr (this, _) ↦ elim (pushed-cases places count at place there) [
                | inl (low, _) ↦ absurd (omega (arith, low, last, before.as_many))
                | inr (_, same) ↦
                    let one : lowest ≡ cost = same_Some lowest cost (sym cost_place ∙ ap (slice_get costs) (sym same ∙ sym this) ∙ cost_other) in
                    omega (arith, one)
              ]
            ]
          ];
    }

    -- of a key that was known, at this place among the keys, of which this state was the cheapest so far
    module _ (distinct : AreDistinct keys) (known_at cheapest cost lowest : ℕ) (key_there : slice_get keys known_at ≡ Some (key bits)) (place_there : slice_get places known_at ≡ Some cheapest)
        (cost_here : slice_get costs count ≡ Some cost) (cost_there : slice_get costs cheapest ≡ Some lowest) where
      known_still : (place : ℕ) (other : List Bool) → place < count + 1 → slice_get states place ≡ Some other → ¬ ¬ Contains keys (key other)
      known_still place other below there unknown =
          elim (one_of place other below there) [
            | inl earlier ↦ before.known place other earlier there unknown
            | inr (_, same) ↦ unknown (subst (Contains keys) (ap key same) (Contains-got keys known_at (key bits) key_there))
          ]

      -- a place of its key is that
      at_known : (at : ℕ) (other : List Bool) → slice_get keys at ≡ Some (key other) → bits ≡ other → at ≡ known_at
      at_known at other has same = distinct at known_at (key bits) (has ∙ ap (λ b. Some (key b)) (sym same)) key_there

      pub of_known_key : lowest ≤ cost → AreCheapest key states costs (count + 1) keys places
      of_known_key dearer = record {
        as_many = before.as_many;
        few = let low = before.few in omega (arith, low);
        known = known_still;
        within = λ at place there. let low = before.within at place there in omega (arith, low);
        of_the_key = before.of_the_key;
        least = λ at place other those other_cost place_cost below has there listed cost_other cost_place.
            elim (one_of other those below listed) [
              | inl earlier ↦ before.least at place other those other_cost place_cost earlier has there listed cost_other cost_place
              | inr (this, same) ↦
                  let same_place : place ≡ cheapest = same_Some place cheapest (sym there ∙ ap (slice_get places) (at_known at those has same) ∙ place_there) in
                  let one : place_cost ≡ lowest = same_Some place_cost lowest (sym cost_place ∙ ap (slice_get costs) same_place ∙ cost_there) in
                  let other_one : other_cost ≡ cost = same_Some other_cost cost (sym cost_other ∙ ap (slice_get costs) this ∙ cost_here) in
                  omega (arith, one, other_one, dearer)
            ];
      }

      pub of_cheaper_state : cost < lowest → AreCheapest key states costs (count + 1) keys (slice_set places known_at count)
      of_cheaper_state cheaper = record {
        as_many = length-set places known_at count ∙ before.as_many;
        few = let low = before.few in omega (arith, low);
        known = known_still;
        within = λ at place there.
            elim (set-cases places known_at count at place there) [
              | inl (_, same) ↦ omega (arith, same)
              | inr (_, old) ↦ let low = before.within at place old in omega (arith, low)
            ];
        of_the_key = λ at place other k has there listed.
            elim (set-cases places known_at count at place there) [
              | inl (same_at, same) ↦
                  ap key (same_Some other bits (sym listed ∙ sym (ap (slice_get states) same) ∙ here)) ∙ same_Some (key bits) k (sym key_there ∙ sym (ap (slice_get keys) same_at) ∙ has)
              | inr (_, old) ↦ before.of_the_key at place other k has old listed
            ];
        least = λ at place other those other_cost place_cost below has there listed cost_other cost_place.
            elim (set-cases places known_at count at place there) [
              | inl (same_at, same) ↦
                  let one : place_cost ≡ cost = same_Some place_cost cost (sym cost_place ∙ sym (ap (slice_get costs) same) ∙ cost_here) in
                  elim (one_of other those below listed) [
                    | inl earlier ↦
                        let above = before.least known_at cheapest other those other_cost lowest earlier (sym (ap (slice_get keys) same_at) ∙ has) place_there listed cost_other cost_there in
                        omega (arith, one, above, cheaper)
                    | inr (this, _) ↦
                        let other_one : other_cost ≡ cost = same_Some other_cost cost (sym cost_other ∙ ap (slice_get costs) this ∙ cost_here) in
                        omega (arith, one, other_one)
                  ]
              | inr (differs, old) ↦ elim (one_of other those below listed) [
                | inl earlier ↦ before.least at place other those other_cost place_cost earlier has old listed cost_other cost_place
                | inr (_, same) ↦ absurd (differs (at_known at those has same))
              ]
            ];
      }

-- a key that was put is new or was known, as the store says
put_cases : (keys new : List (List Bool)) (k : List Bool) (at : ℕ) (is_new b : Bool) → IsPlaced keys new k at is_new → is_new ≡ b → MatchBool b ((¬ Contains keys k) × (new ≡ keys ++ k ∷ [])) ((slice_get keys at ≡ Some k) × (new ≡ keys))
put_cases keys new k at is_new true placed is = let (absent, pushed, _) = subst (IsPlaced keys new k at) is placed in (absent, pushed)
put_cases keys new k at is_new false placed is = subst (IsPlaced keys new k at) is placed

pub put_new : (keys new : List (List Bool)) (k : List Bool) (at : ℕ) (is_new : Bool) → IsPlaced keys new k at is_new → is_new ≡ true → (¬ Contains keys k) × (new ≡ keys ++ k ∷ [])
put_new keys new k at is_new placed is = put_cases keys new k at is_new true placed is

pub put_known : (keys new : List (List Bool)) (k : List Bool) (at : ℕ) (is_new : Bool) → IsPlaced keys new k at is_new → is_new ≡ false → (slice_get keys at ≡ Some k) × (new ≡ keys)
put_known keys new k at is_new placed is = put_cases keys new k at is_new false placed is
