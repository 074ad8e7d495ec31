-- Sets with a greater width contain the same numbers, and there are as many of them.
use Rattle.std.proofs.Common.{◌≡◌, ℕ, ◌+◌, ◌<◌, ◌≤◌, ◌⊎◌, inl, inr, Bool, true, false, List, [], ◌∷◌, ◌++◌, map, take, length, Some, refl, sym, ap, ◌∙◌, subst, arith}
use Rattle.std.specs.Prelude.{IsTrue, All, Contains, slice_get}
use Rattle.std.proofs.lemmas.Bool.{cases_lt}
use Rattle.std.proofs.lemmas.List.{ext_get_or, get_or-take, length-take-le, map-append, take_more}
use Rattle.std.proofs.lemmas.List.Elements.{All-contains, All-push, All-take}
use Rattle.std.proofs.lemmas.List.FromFn.{length-map-range_with_len, get_or-map-range_with_len}
use Rattle.std.proofs.lemmas.Option.{slice_get-get_or, get_or_from_slice_get, slice_get_within}
use Rattle.packed_state.specs.Sets.{at_width, has}
use Rattle.packed_state.specs.declared.pooled.PooledStore.{PooledStore}
use Rattle.packed_state.specs.PooledStore.{rows_of}
use Rattle.packed_state.specs.PooledView.{pooled_states}
use Rattle.packed_state.proofs.StoreLemmas.{length-sets}
use Rattle.packed_state.specs.Store.{AreDistinct, IsPlaced}
use Rattle.model.proofs.ListLemmas.{Contains-got, map-Contains}

abbrev pub IsBelow : ℕ → List Bool → Type 0
IsBelow width set = (number : ℕ) → IsTrue (has set number) → number < width

pub length-at_width : (width : ℕ) (set : List Bool) → length (at_width width set) ≡ width
length-at_width width set = length-map-range_with_len (has set) 0 width

pub has-at_width : (width : ℕ) (set : List Bool) (k : ℕ) → k < width → has (at_width width set) k ≡ has set k
has-at_width width set k within = get_or-map-range_with_len (has set) 0 width k k false within (omega arith)

one_wide : (width wide : ℕ) (a b : List Bool) → length a ≡ width → length b ≡ width → IsBelow wide a → IsBelow wide b → at_width wide a ≡ at_width wide b → a ≡ b
one_wide width wide a b a_long b_long a_below b_below same = ext_get_or false a b (a_long ∙ sym b_long) (λ k within. each k (cases_lt k wide))
  where
    beyond : (set : List Bool) → IsBelow wide set → (k : ℕ) → wide ≤ k → has set k ≡ false
    beyond set below k past = by_test (has set k) refl
      where
        by_test : (b : Bool) → has set k ≡ b → b ≡ false
        by_test true is = absurd (omega (arith, below k is, past))
        by_test false is = refl

    each : (k : ℕ) → (k < wide) ⊎ (wide ≤ k) → has a k ≡ has b k
    each k (inl within) = sym (has-at_width wide a k within) ∙ ap (λ set. has set k) same ∙ has-at_width wide b k within
    each k (inr past) = beyond a a_below k past ∙ sym (beyond b b_below k past)

module _ (width wide : ℕ) (sets : List (List Bool)) (distinct : AreDistinct sets) (below : All (IsBelow wide) sets) (k : ℕ) (set : List Bool)
    (at : slice_get sets k ≡ Some set) (long : length set ≡ width) (lengths : All (λ (set : List Bool). length set ≡ width) (take k sets)) where
  within : k < length sets
  within = slice_get_within sets k set at

  taken : take (k + 1) sets ≡ take k sets ++ set ∷ []
  taken = take_more sets k set within ∙ ap (λ set. take k sets ++ set ∷ []) (get_or_from_slice_get sets k set set at)

  not_before : Contains (take k sets) set → ⊥
  not_before (j, inside, is) =
      let few : length (take k sets) ≡ k = length-take-le k sets (omega (arith, within)) in
      let earlier : j < k = omega (arith, inside, few) in
      let there : slice_get sets j ≡ Some set = slice_get-get_or sets j set (omega (arith, earlier, within)) ∙ ap (λ set. Some set) (sym (get_or-take k sets j set earlier) ∙ is) in
      omega (arith, earlier, distinct j k set there at)

  pub one_more_wide : (new : List (List Bool)) (place : ℕ) (is_new : Bool) → IsPlaced (map (at_width wide) (take k sets)) new (at_width wide set) place is_new
      → new ≡ map (at_width wide) (take (k + 1) sets)
  one_more_wide new place true (absent, pushed, there) =
      pushed ∙ sym (map-append (at_width wide) (take k sets) (set ∷ [])) ∙ ap (map (at_width wide)) (sym taken)
  one_more_wide new place false (there, kept) =
      let (other, occurs, same) = map-Contains (at_width wide) (take k sets) (at_width wide set) (Contains-got (map (at_width wide) (take k sets)) place (at_width wide set) there) in
      let is : other ≡ set = one_wide width wide other set (All-contains (λ (set : List Bool). length set ≡ width) (take k sets) other lengths occurs) long
      (below_there other occurs) (below_at (Contains-got sets k set at)) same in
      absurd (not_before (subst (Contains (take k sets)) is occurs))
    where
      below_at : {set : List Bool} → Contains sets set → IsBelow wide set
      below_at {set} occurs = All-contains (IsBelow wide) sets set below occurs

      below_there : (other : List Bool) → Contains (take k sets) other → IsBelow wide other
      below_there other occurs = All-contains (IsBelow wide) (take k sets) other (All-take (IsBelow wide) k sets below) occurs

  pub lengths_more : All (λ (set : List Bool). length set ≡ width) (take (k + 1) sets)
  lengths_more = subst (All (λ (set : List Bool). length set ≡ width)) (sym taken) (All-push (λ (set : List Bool). length set ≡ width) (take k sets) set lengths long)

pub few_sets : (store : PooledStore) → length (pooled_states store) ≤ 16777216
few_sets store = omega (arith, length-sets store.width (rows_of store.pool), store.pooled.stored.few)

pub is_below_at : (wide : ℕ) (sets : List (List Bool)) → All (IsBelow wide) sets → (k : ℕ) (set : List Bool) → slice_get sets k ≡ Some set → IsBelow wide set
is_below_at wide sets below k set at = All-contains (IsBelow wide) sets set below (Contains-got sets k set at)
