-- Ascending objects are all objects, in order, that are among them.
use Rattle.std.proofs.Common.{◌≡◌, ◌∙◌, ℕ, zero, suc, ◌+◌, ◌<◌, ◌≤◌, Bool, true, false, ◌||◌, List, [], ◌∷◌, length, map, refl, sym, ap, arith}
use Rattle.std.specs.Prelude.{filter, cond, nat_lt}
use Rattle.std.specs.List.{list_any, range_with_len}
use Rattle.std.specs.List.Sorted.{IsStrictlySortedBy}
use Rattle.std.specs.Ordering.{nat_cmp, is_eq}
use Rattle.std.specs.declared.cmp.Ordering.{Ordering}
use Rattle.std.specs.declared.cmp.Ordering.TheVariants.{Less, Equal, Greater}
use Rattle.std.specs.BTreeMap.{is_at}
use Rattle.std.proofs.lemmas.Bool.{ltb-true, ltb-false}
use Rattle.std.proofs.lemmas.Cmp.{ranked}
use Rattle.std.proofs.lemmas.Map.Keys.{sorted_head, sorted_tail}
use Rattle.task.specs.declared.atoms.ObjectId.{ObjectId}
use Rattle.task.specs.contracts.atoms.ObjectIdOrd.TheImpl as object_ord
use Rattle.task.specs.TaskParts.{object_of}
use Rattle.model.specs.Task.{Task, Union}
use Rattle.model.specs.Meaning.{is_of, objects_of}
use Rattle.model.proofs.InstancesLemmas.{is_of-within}

abbrev pub order : ObjectId → ObjectId → Ordering
order = (object_ord.ghosts).cmp

-- the object with this number is among these
abbrev pub among : List ObjectId → ℕ → Bool
among keys number = list_any (is_at (order (record { 0 = number }))) keys

apart : (x y : ℕ) → ((x ≡ y) → ⊥) → is_eq (nat_cmp x y) ≡ false
apart x y differ =
    elim (nat_cmp x y) as (λ r. r ≡ nat_cmp x y → is_eq r ≡ false) [
      | Less ↦ λ _. refl
      | Equal ↦ λ e. absurd (differ (ranked x y Equal e))
      | Greater ↦ λ _. refl
    ] refl

same_at : (x : ℕ) → is_eq (nat_cmp x x) ≡ true
same_at x =
    elim (nat_cmp x x) as (λ r. r ≡ nat_cmp x x → is_eq r ≡ true) [
      | Less ↦ λ e. absurd (omega (arith, ranked x x Less e))
      | Equal ↦ λ _. refl
      | Greater ↦ λ e. absurd (omega (arith, ranked x x Greater e))
    ] refl

-- each is above those before it, and none is below the first number
abbrev Rises : ℕ → List ObjectId → Type 0
Rises from [] = Unit {0}
Rises from (k ∷ keys) = (from ≤ k.0) × Rises (k.0 + 1) keys

rises-after : (k : ObjectId) (keys : List ObjectId) → IsStrictlySortedBy order (k ∷ keys) → Rises (k.0 + 1) keys
rises-after k [] sorted = tt
rises-after k (next ∷ keys) sorted =
    (omega (arith, ranked k.0 next.0 Less (sym (sorted_head order k (next ∷ keys) sorted).0)), rises-after next keys (sorted_tail order k (next ∷ keys) sorted))

rises : (keys : List ObjectId) → IsStrictlySortedBy order keys → Rises 0 keys
rises [] sorted = tt
rises (k ∷ keys) sorted = (omega arith, rises-after k keys sorted)

rises-lower : (low high : ℕ) (keys : List ObjectId) → low ≤ high → Rises high keys → Rises low keys
rises-lower low high [] below up = tt
rises-lower low high (k ∷ keys) below up = (omega (arith, below, up.0), up.1)

not_below : (number from : ℕ) (keys : List ObjectId) → number < from → Rises from keys → among keys number ≡ false
not_below number from [] below up = refl
not_below number from (k ∷ keys) below up =
    λ i. apart number k.0 (λ same. absurd (omega (arith, same, below, up.0))) i
    || not_below number (k.0 + 1) keys (omega (arith, below, up.0)) up.1 i

module _ (P : ℕ → Bool) where
  abbrev of_types : List ObjectId → List ℕ
  of_types keys = map object_of (filter (λ (o : ObjectId). P o.0) keys)

  none_kept : (xs : List ℕ) → filter (among []) xs ≡ []
  none_kept [] = refl
  none_kept (x ∷ xs) = none_kept xs

  none_of : (keys : List ObjectId) (from : ℕ) → Rises from keys → ((number : ℕ) → P number ≡ true → number < from) → of_types keys ≡ []
  none_of [] from up within = refl
  none_of (k ∷ keys) from up within =
      elim (P k.0) as (λ b. P k.0 ≡ b → map object_of (cond b (k ∷ filter (λ (o : ObjectId). P o.0) keys) (filter (λ (o : ObjectId). P o.0) keys)) ≡ []) [
        | true ↦ λ passes. absurd (omega (arith, within k.0 passes, up.0))
        | false ↦ λ _. none_of keys from (rises-lower from (k.0 + 1) keys (omega (arith, up.0)) up.1) within
      ] refl

  -- an object above another one differs from it
  skipped : (k : ObjectId) (keys : List ObjectId) (count from : ℕ) → k.0 < from
      → filter (among (k ∷ keys)) (filter P (range_with_len from count)) ≡ filter (among keys) (filter P (range_with_len from count))
  skipped k keys zero from below = refl
  skipped k keys (suc count) from below =
      let rest = filter P (range_with_len (from + 1) count) in
      let later = skipped k keys count (from + 1) (omega (arith, below)) in
      elim (P from) as (λ b. filter (among (k ∷ keys)) (cond b (from ∷ rest) rest) ≡ filter (among keys) (cond b (from ∷ rest) rest)) [
        | true ↦ λ i. cond (apart from k.0 (λ same. absurd (omega (arith, same, below))) i || among keys from) (from ∷ later i) (later i)
        | false ↦ later
      ]

  -- the objects that pass, from a number on
  rising : (count from : ℕ) (keys : List ObjectId) → Rises from keys → ((number : ℕ) → P number ≡ true → number < from + count)
      → of_types keys ≡ filter (among keys) (filter P (range_with_len from count))
  rising zero from keys up within = none_of keys from up (λ number passes. omega (arith, within number passes))
  rising (suc count) from [] up within = sym (none_kept (filter P (range_with_len from (suc count))))
  rising (suc count) from (k ∷ keys) up within =
      let rest = filter P (range_with_len (from + 1) count) in
      let bound : (number : ℕ) → P number ≡ true → number < from + 1 + count = λ number passes. omega (arith, within number passes) in
      elim (nat_lt from k.0) as (λ b. nat_lt from k.0 ≡ b → of_types (k ∷ keys) ≡ filter (among (k ∷ keys)) (filter P (range_with_len from (suc count)))) [
        | true ↦ λ above.
            let lt = ltb-true from k.0 above in
            let later = rising count (from + 1) (k ∷ keys) (omega (arith, lt), up.1) bound in
            let absent = not_below from (from + 1) (k ∷ keys) (omega arith) (omega (arith, lt), up.1) in
            later ∙ sym (elim (P from) as (λ b. filter (among (k ∷ keys)) (cond b (from ∷ rest) rest) ≡ filter (among (k ∷ keys)) rest) [
              | true ↦ ap (λ b. cond b (from ∷ filter (among (k ∷ keys)) rest) (filter (among (k ∷ keys)) rest)) absent
              | false ↦ refl
            ])
        | false ↦ λ here.
            let same : k.0 ≡ from = omega (arith, ltb-false from k.0 here, up.0) in
            let later = rising count (from + 1) keys (rises-lower (from + 1) (k.0 + 1) keys (omega (arith, same)) up.1) bound
            ∙ sym (skipped k keys count (from + 1) (omega (arith, same))) in
            let present : among (k ∷ keys) from ≡ true = ap (λ n. is_eq (nat_cmp from n) || among keys from) same ∙ ap (λ b. b || among keys from) (same_at from) in
            elim (P from) as (λ b. P from ≡ b → of_types (k ∷ keys) ≡ filter (among (k ∷ keys)) (cond b (from ∷ rest) rest)) [
              | true ↦ λ passes.
                  ap (λ b. map object_of (cond b (k ∷ filter (λ (o : ObjectId). P o.0) keys) (filter (λ (o : ObjectId). P o.0) keys))) (ap P same ∙ passes)
                  ∙ (λ i. same i ∷ later i)
                  ∙ sym (ap (λ b. cond b (from ∷ filter (among (k ∷ keys)) rest) (filter (among (k ∷ keys)) rest)) present)
              | false ↦ λ fails.
                  ap (λ b. map object_of (cond b (k ∷ filter (λ (o : ObjectId). P o.0) keys) (filter (λ (o : ObjectId). P o.0) keys))) (ap P same ∙ fails)
                  ∙ later
            ] refl
      ] refl

pub rising-objects : (t : Task) (types : Union) (keys : List ObjectId) → IsStrictlySortedBy order keys
    → map object_of (filter (λ (o : ObjectId). is_of t types o.0) keys) ≡ filter (among keys) (objects_of t types)
rising-objects t types keys sorted = rising (is_of t types) (length t.objects) 0 keys (rises keys sorted) (λ number passes. omega (arith, is_of-within t types number passes))
