-- The objects of an instance's changes fit the variables in their conditions.
use Rattle.std.proofs.Common.{◌≡◌, ℕ, true, false, List, [], ◌∷◌, ◌++◌, length, None, Some, inl, inr, refl, sym, subst, true≢false}
use Rattle.std.specs.Prelude.{Contains, IsTrue, slice_get, nat_lt}
use Rattle.std.specs.Cmp.{first_so, second_so}
use Rattle.std.specs.Cmp.Lexicographic.{pointwise}
use Rattle.std.specs.List.{list_all, range_with_len}
use Rattle.std.specs.Option.{option_map_or}
use Rattle.std.proofs.lemmas.List.Elements.{Contains-append_cases}
use Rattle.formulas.specs.State.{FitsFormula, FitsChanges}
use Rattle.model.specs.Task.{Task, Union, Schema, Instance, Effect, Effects, literal, both, each, when, no_effect, more_effects, and, no_formula}
use Rattle.model.specs.Meaning.{is_of, objects_of, Change, change_under, changes_of, changes_of_all, changes_of_instance, is_instance, fits}
use Rattle.model.specs.WellTyped.{is_effect, are_effects, is_formula, is_effect_literal, is_schema, is_task, max_variables}
use Rattle.model.proofs.Tests.{passes_got}
use Rattle.model.proofs.ListLemmas.{Contains-cases, Contains-none, map-Contains, flat_map-Contains, filter-Contains}
use Rattle.formulas.proofs.Quantifiers.{pointwise_push}

mutual
  changes-fit : (t : Task) (e : Effect) (scope : List Union) (objects : List ℕ) → is_effect t scope e ≡ true → pointwise (is_of t) scope objects ≡ true
      → (c : Change) → Contains (changes_of t e objects) c → FitsFormula t c.condition c.binding
  changes-fit t (literal l) scope objects typed fit c at =
      elim (Contains-cases (change_under (and no_formula) objects l) [] c at) [
        | inl is ↦ subst (λ (d : Change). FitsFormula t d.condition d.binding) is (record { scope = scope; typed = refl; fits = fit })
        | inr none ↦ absurd (Contains-none c none)
      ]
  changes-fit t (both parts) scope objects typed fit c at = all-changes-fit t parts scope objects typed fit c at
  changes-fit t (each types part) scope objects typed fit c at =
      let one = flat_map-Contains (λ o. changes_of t part (objects ++ o ∷ [])) (objects_of t types) c at in
      let of = (filter-Contains (is_of t types) (range_with_len 0 (length t.objects)) one.0 one.1).1 in
      changes-fit t part (scope ++ types ∷ []) (objects ++ one.0 ∷ []) (second_so (nat_lt (length scope) max_variables) (is_effect t (scope ++ types ∷ []) part) typed)
      (pointwise_push (is_of t) scope objects types one.0 fit of) c one.2
  changes-fit t (when condition literals) scope objects typed fit c at =
      let there = map-Contains (change_under condition objects) literals c at in
      subst (λ (d : Change). FitsFormula t d.condition d.binding) there.2
      (record { scope = scope; typed = first_so (is_formula t scope condition) (list_all (is_effect_literal t scope) literals) typed; fits = fit })

  all-changes-fit : (t : Task) (es : Effects) (scope : List Union) (objects : List ℕ) → are_effects t scope es ≡ true → pointwise (is_of t) scope objects ≡ true
      → (c : Change) → Contains (changes_of_all t es objects) c → FitsFormula t c.condition c.binding
  all-changes-fit t no_effect scope objects typed fit c at = absurd (Contains-none c at)
  all-changes-fit t (more_effects first rest) scope objects typed fit c at =
      elim (Contains-append_cases (changes_of t first objects) (changes_of_all t rest objects) c at) [
        | inl here ↦ changes-fit t first scope objects (first_so (is_effect t scope first) (are_effects t scope rest) typed) fit c here
        | inr later ↦ all-changes-fit t rest scope objects (second_so (is_effect t scope first) (are_effects t scope rest) typed) fit c later
      ]

-- the changes of an instance of the task
pub instance-changes-fit : (t : Task) → IsTrue (is_task t) → (i : Instance) → IsTrue (is_instance t i) → FitsChanges t (changes_of_instance t i)
instance-changes-fit t well i instance c at =
    elim (slice_get t.schemas i.schema) as (λ o. slice_get t.schemas i.schema ≡ o → option_map_or (λ schema. fits t schema i.objects) o false ≡ true
    → Contains (option_map_or (λ (s : Schema). changes_of t s.effect i.objects) o []) c → FitsFormula t c.condition c.binding) [
      | None ↦ λ _ none _. absurd (true≢false (sym none))
      | Some s ↦ λ got fit among.
          changes-fit t s.effect s.parameters i.objects
          (second_so _ _ (passes_got (is_schema t) t.schemas i.schema s got (second_so _ _ (first_so _ _ (first_so _ _ well))))) fit c among
    ] refl instance at
