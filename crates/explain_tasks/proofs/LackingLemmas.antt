-- Instances that lack values, one after another: those gathered do, and up to the limit they are all.
use Rattle.std.proofs.Common.{◌≡◌, ◌∙◌, ℕ, ◌+◌, ◌<◌, ◌≤◌, Bool, true, false, not, ◌&&◌, ◌||◌, ◌⊎◌, inl, inr, cond, List, [], ◌∷◌, ◌++◌, length, None, Some, refl, sym, ap, subst, arith}
use Rattle.std.specs.Prelude.{Contains, nat_lt, slice_get}
use Rattle.std.specs.Cmp.{nat_eq_equiv}
use Rattle.std.specs.List.{fold, list_all, list_any}
use Rattle.std.specs.Option.{option_map_or}
use Rattle.std.proofs.lemmas.Bool.{and_parts}
use Rattle.std.proofs.lemmas.Bool.Decides.{nat_tests}
use Rattle.std.proofs.lemmas.List.{length-append}
use Rattle.std.proofs.lemmas.List.Folds.{list_all-append, list_any-append}
use Rattle.model.specs.Task.{Task, Term, Increase, by_number, by_function, Schema, Instance}
use Rattle.model.specs.Meaning.{has_amount, is_instance, object_of}
use Rattle.model.specs.StaticallyFalse.{is_statically_false}
use Rattle.model.proofs.ListLemmas.{Contains-cases, Contains-none}
use Rattle.explain_tasks.specs.Costs.{AreLacking, is_same_term, is_same_value, lack_the_same, lacking_among, lacks_value, with_lacking}

-- ---- an instance lacks the same value as itself

same_terms : (objects : List ℕ) (terms : List Term) → list_all (is_same_term objects objects) terms ≡ true
same_terms objects [] = refl
same_terms objects (term ∷ terms) = λ i. nat_eq_equiv.refl (object_of objects term) i && same_terms objects terms i

same_value : (increase : Increase) (objects : List ℕ) → is_same_value increase objects objects ≡ true
same_value (by_number amount) objects = refl
same_value (by_function f) objects = same_terms objects f.terms

itself : (t : Task) (x : Instance) → lacks_value t x ≡ true → lack_the_same t x x ≡ true
itself t x lacks =
    let lacking = (and_parts (is_instance t x) _ lacks).1 in
    let found : option_map_or (λ (s : Schema). is_same_value s.increase x.objects x.objects) (slice_get t.schemas x.schema) false ≡ true =
    elim (slice_get t.schemas x.schema) as (λ o. option_map_or (λ (s : Schema). not (has_amount t s x.objects) && not (is_statically_false t s.precondition x.objects)) o false ≡ true
    → option_map_or (λ (s : Schema). is_same_value s.increase x.objects x.objects) o false ≡ true) [
      | None ↦ λ no. absurd (cc)
      | Some s ↦ λ _. same_value s.increase x.objects
    ] lacking in
    (λ i. nat_eq_equiv.refl x.schema i && found i)

-- ---- one instance after another

module _ (t : Task) (limit : ℕ) where
  abbrev next : List Instance → Instance → List Instance
  next = with_lacking t limit

  -- it is left out, or lacks a value and is added
  grows : (found : List Instance) (x : Instance) → (next found x ≡ found) ⊎ ((next found x ≡ found ++ x ∷ []) × (lacks_value t x ≡ true))
  grows found x =
      elim ((nat_lt (length found) limit && lacks_value t x) && not (list_any (lack_the_same t x) found)) as (λ b.
      ((nat_lt (length found) limit && lacks_value t x) && not (list_any (lack_the_same t x) found)) ≡ b
      → (cond b (found ++ x ∷ []) found ≡ found) ⊎ ((cond b (found ++ x ∷ []) found ≡ found ++ x ∷ []) × (lacks_value t x ≡ true))) [
        | true ↦ λ is. inr (refl, (and_parts (nat_lt (length found) limit) (lacks_value t x) (and_parts (nat_lt (length found) limit && lacks_value t x) (not (list_any (lack_the_same t x) found)) is).0).1)
        | false ↦ λ _. inl refl
      ] refl

  each_lacks : (found xs : List Instance) → list_all (lacks_value t) found ≡ true → list_all (lacks_value t) (fold next found xs) ≡ true
  each_lacks found [] so = so
  each_lacks found (x ∷ xs) so =
      each_lacks (next found x) xs (
      elim (grows found x) [
        | inl same ↦ ap (list_all (lacks_value t)) same ∙ so
        | inr more ↦ ap (list_all (lacks_value t)) more.0 ∙ list_all-append (lacks_value t) found (x ∷ []) ∙ (λ i. so i && (more.1 i && true))
      ])

  stays : (p : Instance → Bool) (found xs : List Instance) → list_any p found ≡ true → list_any p (fold next found xs) ≡ true
  stays p found [] so = so
  stays p found (x ∷ xs) so =
      stays p (next found x) xs (
      elim (grows found x) [
        | inl same ↦ ap (list_any p) same ∙ so
        | inr more ↦ ap (list_any p) more.0 ∙ list_any-append p found (x ∷ []) ∙ ap (λ b. b || list_any p (x ∷ [])) so
      ])

  longer : (found xs : List Instance) → length found ≤ length (fold next found xs)
  longer found [] = omega arith
  longer found (x ∷ xs) =
      let later = longer (next found x) xs in
      elim (grows found x) [
        | inl same ↦ let long : length (next found x) ≡ length found = ap length same in omega (arith, later, long)
        | inr more ↦ let long : length (next found x) ≡ length found + 1 = ap length more.0 ∙ length-append found (x ∷ []) in omega (arith, later, long)
      ]

  -- while there is room, an instance that lacks a value is reported
  stated_here : (found : List Instance) (x : Instance) → length found < limit → lacks_value t x ≡ true → list_any (lack_the_same t x) (next found x) ≡ true
  stated_here found x less lacks =
      let room : nat_lt (length found) limit ≡ true = grind (arith, nat_tests) in
      ap (λ b. list_any (lack_the_same t x) (cond (b && not (list_any (lack_the_same t x) found)) (found ++ x ∷ []) found)) (λ i. room i && lacks i)
      ∙ elim (list_any (lack_the_same t x) found) as (λ b. list_any (lack_the_same t x) found ≡ b → list_any (lack_the_same t x) (cond (not b) (found ++ x ∷ []) found) ≡ true) [
        | true ↦ λ is. is
        | false ↦ λ is. list_any-append (lack_the_same t x) found (x ∷ []) ∙ (λ i. is i || (itself t x lacks i || false))
      ] refl

  reported : (found xs : List Instance) → length (fold next found xs) < limit → (i : Instance) → Contains xs i → lacks_value t i ≡ true → list_any (lack_the_same t i) (fold next found xs) ≡ true
  reported found [] few i at so = absurd (Contains-none i at)
  reported found (x ∷ xs) few i at so =
      elim (Contains-cases x xs i at) [
        | inl is ↦
            let later = longer found (x ∷ xs) in
            let less : length found < limit = omega (arith, few, later) in
            subst (λ j. list_any (lack_the_same t j) (fold next (next found x) xs) ≡ true) is
            (stays (lack_the_same t x) (next found x) xs (stated_here found x less (subst (λ j. lacks_value t j ≡ true) (sym is) so)))
        | inr rest ↦ reported (next found x) xs few i rest so
      ]

  pub are_lacking : (instances : List Instance) → AreLacking t limit instances (lacking_among t limit [] instances)
  are_lacking instances = record {
    true_of_each = each_lacks [] instances refl;
    each_reported = reported [] instances;
  }
