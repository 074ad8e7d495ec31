-- A statically false formula holds in no state with the initial static atoms.
use Rattle.std.proofs.Common.{◌≡◌, ◌∙◌, ℕ, Bool, true, false, not, ◌&&◌, inl, inr, List, [], ◌∷◌, Option, None, Some, refl, sym, ap, true≢false}
use Rattle.std.specs.Prelude.{Contains, slice_get, if◌then◌else◌}
use Rattle.std.specs.List.{list_any, list_all}
use Rattle.std.specs.Option.{option_map_or, option_and_then}
use Rattle.std.proofs.lemmas.Bool.{and_parts, or_cases, cases_Bool, not-true, not-false, false_from_ne_true}
use Rattle.model.specs.Task.{Formula, Schema, Task, Instance}
use Rattle.model.specs.Meaning.{State, initial_state, holds, fits, has_amount, can_apply, step, after_changes, changes_of, is_instance}
use Rattle.model.specs.Instances.{all_instances}
use Rattle.model.specs.Fluents.{is_fluent, HasInitialStatics}
use Rattle.model.specs.SureLiterals.{Literal, is_true, is_false, are_same, are_different, literal_holds, sure}
use Rattle.model.specs.StaticallyFalse.{is_fixed, is_statically_false, is_kept, kept_instances, StaticallyFalseIsNotApplicable, OnlyCountingChangesAreMade}
use Rattle.model.proofs.SureLiteralsHold.{sure_literals_hold}
use Rattle.model.proofs.ListLemmas.{Contains-filter, filter-Contains}
use Rattle.model.proofs.InstancesLemmas.{Contains-all_instances, all_instances-Contains, is_instance-of_step}

-- a fixed literal has the same truth value as initially
fixed : (task : Task) (s : State) (l : Literal) → HasInitialStatics task s → is_fixed task l ≡ true → literal_holds s l ≡ literal_holds (initial_state task) l
fixed task s (is_true a) statics is = statics a (not-true (is_fluent task a.predicate) is)
fixed task s (is_false a) statics is = ap not (statics a (not-true (is_fluent task a.predicate) is))
fixed task s (are_same a b) statics is = refl
fixed task s (are_different a b) statics is = refl

-- not all of them hold if one is fixed and initially false
not_all_hold : (task : Task) (s : State) (ls : List Literal) → HasInitialStatics task s → list_all (literal_holds s) ls ≡ true
    → list_any (λ l. is_fixed task l && not (literal_holds (initial_state task) l)) ls ≡ true → ⊥
not_all_hold task s [] statics all some = true≢false (sym some)
not_all_hold task s (l ∷ ls) statics all some =
    let both = and_parts (literal_holds s l) (list_all (literal_holds s) ls) all in
    elim (or_cases (is_fixed task l && not (literal_holds (initial_state task) l)) _ some) [
      | inl here ↦
          let parts = and_parts (is_fixed task l) (not (literal_holds (initial_state task) l)) here in
          true≢false (sym both.0 ∙ fixed task s l statics parts.0 ∙ not-true (literal_holds (initial_state task) l) parts.1)
      | inr later ↦ not_all_hold task s ls statics both.1 later
    ]

pub statically_false-fails : (task : Task) (f : Formula) (b : List ℕ) (s : State) → HasInitialStatics task s → is_statically_false task f b ≡ true → holds task f b s ≡ false
statically_false-fails task f b s statics closed =
    false_from_ne_true (holds task f b s) (λ holding. not_all_hold task s (sure task f b) statics (sure_literals_hold task f b s holding) closed)

pub only_counting_changes_are_made : OnlyCountingChangesAreMade
only_counting_changes_are_made task c s statics uncounted =
    statically_false-fails task c.condition c.binding s statics (not-false (is_statically_false task c.condition c.binding) uncounted)

abbrev leads_by : Task → State → Instance → Schema → Option State
leads_by task s i schema =
    if fits task schema i.objects && can_apply task schema i.objects s then Some (after_changes task s (changes_of task schema.effect i.objects)) else None

nowhere : (a b : Bool) (x : State) → b ≡ false → (if a && b then Some x else None) ≡ None
nowhere true b x is = ap (λ c. if c then Some x else None) is
nowhere false b x is = refl

-- what has a value but is statically false, or has no value
cannot_be : (valued closed holding : Bool) → (closed ≡ true → holding ≡ false) → (valued && not closed) ≡ false → (valued && holding) ≡ false
cannot_be true true holding fails is = fails refl
cannot_be true false holding fails is = absurd (true≢false is)
cannot_be false closed holding fails is = refl

pub statically_false_is_not_applicable : StaticallyFalseIsNotApplicable
statically_false_is_not_applicable task i s statics closed =
    elim (slice_get task.schemas i.schema) as (λ o. option_map_or (λ (schema : Schema). has_amount task schema i.objects && not (is_statically_false task schema.precondition i.objects)) o false ≡ false
    → option_and_then (leads_by task s i) o ≡ None) [
      | None ↦ λ _. refl
      | Some schema ↦ λ is.
          nowhere (fits task schema i.objects) (can_apply task schema i.objects s) _
          (cannot_be (has_amount task schema i.objects) (is_statically_false task schema.precondition i.objects) (holds task schema.precondition i.objects s)
          (statically_false-fails task schema.precondition i.objects s statics) is)
    ] closed

-- so only a kept instance is applicable
pub Contains-kept : (task : Task) (s next : State) (i : Instance) → HasInitialStatics task s → step task s i ≡ Some next → Contains (kept_instances task) i
Contains-kept task s next i statics leads =
    Contains-filter (is_kept task) (all_instances task) i (Contains-all_instances task i (is_instance-of_step task s i next leads))
    (elim (cases_Bool (is_kept task i)) [
      | inl kept ↦ kept
      | inr closed ↦ let nowhere_at_all = statically_false_is_not_applicable task i s statics closed in absurd (cc)
    ])

-- and a kept instance is not statically inapplicable
pub kept-Contains : (task : Task) (i : Instance) → Contains (kept_instances task) i → (is_instance task i ≡ true) × (is_kept task i ≡ true)
kept-Contains task i at = let both = filter-Contains (is_kept task) (all_instances task) i at in (all_instances-Contains task i both.0, both.1)
