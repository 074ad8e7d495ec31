-- An instance leads from one state to another, at a cost, exactly if its image leads from image to image at that cost.
use Rattle.std.proofs.Common.{◌≡◌, ◌∙◌, ℕ, Bool, true, false, ◌&&◌, List, [], ◌∷◌, ◌++◌, map, length, Option, None, Some, refl, sym, ap}
use Rattle.std.specs.Prelude.{IsTrue, slice_get, cond, is_some, unwrap_or}
use Rattle.std.specs.Cmp.{first_so, second_so}
use Rattle.std.specs.Cmp.Lexicographic.{pointwise, as_long}
use Rattle.std.specs.Option.{option_map, option_map_or, option_and_then}
use Rattle.std.proofs.lemmas.Bool.{and_parts}
use Rattle.std.proofs.lemmas.Option.{cond_some}
use Rattle.model.specs.Task.{Union, Increase, by_number, by_function, Schema, Task, Instance}
use Rattle.model.specs.Meaning.{State, is_of, holds, changes_of, after_changes, fits, value_in, amount_of, can_apply, step, cost_of, system_of}
use Rattle.model.specs.WellTyped.{is_increase, is_schema, is_task}
use Rattle.model.proofs.ListLemmas.{Contains-got, Contains-flat_map}
use Rattle.model.proofs.Tests.{passes_got}
use Rattle.symmetries_definitions.specs.Exchanges.{image_of_state, image_of_instance, image_of_formula, image_of_effect, image_of_increase}
use Rattle.symmetries_definitions.specs.NamedObjects.{named_in_formula, named_in_effect, named_in_increase, named_in_schema}
use Rattle.symmetries_definitions.specs.Symmetries.{IsSymmetry}
use Rattle.symmetries_definitions.specs.Orbits.{IsAutomorphism}
use Rattle.symmetries_definitions.specs.Laws.{SymmetriesKeepMeaning, SymmetriesAreAutomorphisms}
use Rattle.symmetries_definitions.proofs.NamedLemmas.{Stay, first_stay, last_stay, same_formula, same_effect, same_increase}
use Rattle.symmetries_definitions.proofs.Images.{atom-image, twice, state_twice}
use Rattle.symmetries_definitions.proofs.ObjectImages.{is_of-image}
use Rattle.symmetries_definitions.proofs.FormulaImages.{lifted_bound, holds-image}
use Rattle.symmetries_definitions.proofs.EffectImages.{after-image}
use Rattle.symmetries_definitions.proofs.GoalImages.{goal-image}

map-cond : {X : Type 0} (f : X → X) (b : Bool) (x : X) → cond b (Some (f x)) None ≡ option_map f (cond b (Some x) None)
map-cond f true x = refl
map-cond f false x = refl

module _ (task : Task) (well : IsTrue (is_task task)) (to : ℕ → ℕ) (symmetry : IsSymmetry task to) where
  fits-image : (types : List Union) (objects : List ℕ) → pointwise (is_of task) types (map to objects) ≡ pointwise (is_of task) types objects
  fits-image [] [] = refl
  fits-image [] (o ∷ objects) = refl
  fits-image (t ∷ types) [] = refl
  fits-image (t ∷ types) (o ∷ objects) = λ i. is_of-image task to symmetry t o i && fits-image types objects i

  amount-image : (increase : Increase) (scope : List Union) (b : List ℕ) → is_increase task scope increase ≡ true → length scope ≡ length b
      → amount_of task (image_of_increase to increase) (map to b) ≡ amount_of task increase b
  amount-image (by_number amount) scope b typed long = refl
  amount-image (by_function f) scope b typed long =
      ap (value_in task.values) (atom-image to b f (lifted_bound task scope task.functions f b typed long)) ∙ symmetry.values _

  -- facts about a schema of the task
  module _ (number : ℕ) (s : Schema) (got : slice_get task.schemas number ≡ Some s) where
    typed : is_schema task s ≡ true
    typed = passes_got (is_schema task) task.schemas number s got (second_so _ _ (first_so _ _ (first_so _ _ well)))

    -- it names only fixed objects
    named : Stay to (named_in_schema s)
    named o at = symmetry.actions o (Contains-flat_map named_in_schema task.schemas s o (Contains-got task.schemas number s got) at)

    named_first : Stay to (named_in_formula s.precondition ++ named_in_effect s.effect)
    named_first = first_stay to (named_in_formula s.precondition ++ named_in_effect s.effect) (named_in_increase s.increase) named

    precondition_is_same : image_of_formula to s.precondition ≡ s.precondition
    precondition_is_same = same_formula to s.precondition (first_stay to (named_in_formula s.precondition) (named_in_effect s.effect) named_first)

    effect_is_same : image_of_effect to s.effect ≡ s.effect
    effect_is_same = same_effect to s.effect (last_stay to (named_in_formula s.precondition) (named_in_effect s.effect) named_first)

    increase_is_same : image_of_increase to s.increase ≡ s.increase
    increase_is_same = same_increase to s.increase (last_stay to (named_in_formula s.precondition ++ named_in_effect s.effect) (named_in_increase s.increase) named)

    module _ (objects : List ℕ) (fit : fits task s objects ≡ true) where
      long : length s.parameters ≡ length objects
      long = as_long (is_of task) s.parameters objects fit

      amount-same : amount_of task s.increase (map to objects) ≡ amount_of task s.increase objects
      amount-same =
          ap (λ e. amount_of task e (map to objects)) (sym increase_is_same)
          ∙ amount-image s.increase s.parameters objects (second_so _ _ (first_so _ _ (first_so _ _ typed))) long

      can-same : (state : State) → can_apply task s (map to objects) (image_of_state to state) ≡ can_apply task s objects state
      can-same state =
          λ i. is_some (amount-same i)
          && (ap (λ g. holds task g (map to objects) (image_of_state to state)) (sym precondition_is_same)
          ∙ holds-image task to symmetry s.precondition s.parameters objects state (second_so _ _ (first_so _ _ typed)) long) i

      after-same : (state : State) → after_changes task (image_of_state to state) (changes_of task s.effect (map to objects)) ≡ image_of_state to (after_changes task state (changes_of task s.effect objects))
      after-same state =
          ap (λ e. after_changes task (image_of_state to state) (changes_of task e (map to objects))) (sym effect_is_same)
          ∙ after-image task to symmetry s.effect s.parameters objects state (second_so _ _ typed) long

      pub leads-image : (state : State) → cond (can_apply task s (map to objects) (image_of_state to state)) (Some (after_changes task (image_of_state to state) (changes_of task s.effect (map to objects)))) None
          ≡ option_map (image_of_state to) (cond (can_apply task s objects state) (Some (after_changes task state (changes_of task s.effect objects))) None)
      leads-image state =
          (λ i. cond (can-same state i) (Some (after-same state i)) None)
          ∙ map-cond (image_of_state to) (can_apply task s objects state) (after_changes task state (changes_of task s.effect objects))

  -- whether or not the objects fit the schema's parameters
  by_fit : (number : ℕ) (s : Schema) → slice_get task.schemas number ≡ Some s → (objects : List ℕ) (state : State) (fit : Bool) → fits task s objects ≡ fit
      → cond (fit && can_apply task s (map to objects) (image_of_state to state)) (Some (after_changes task (image_of_state to state) (changes_of task s.effect (map to objects)))) None
      ≡ option_map (image_of_state to) (cond (fit && can_apply task s objects state) (Some (after_changes task state (changes_of task s.effect objects))) None)
  by_fit number s got objects state true fit = leads-image number s got objects fit state
  by_fit number s got objects state false fit = refl

  pub step-image : (state : State) (i : Instance) → step task (image_of_state to state) (image_of_instance to i) ≡ option_map (image_of_state to) (step task state i)
  step-image state i = by_found (slice_get task.schemas i.schema) refl
    where
      by_found : (found : Option Schema) → slice_get task.schemas i.schema ≡ found
          → option_and_then (λ (s : Schema). cond (fits task s (map to i.objects) && can_apply task s (map to i.objects) (image_of_state to state)) (Some (after_changes task (image_of_state to state) (changes_of task s.effect (map to i.objects)))) None) found
          ≡ option_map (image_of_state to) (option_and_then (λ (s : Schema). cond (fits task s i.objects && can_apply task s i.objects state) (Some (after_changes task state (changes_of task s.effect i.objects))) None) found)
      by_found None got = refl
      by_found (Some s) got =
          ap (λ f. cond (f && can_apply task s (map to i.objects) (image_of_state to state)) (Some (after_changes task (image_of_state to state) (changes_of task s.effect (map to i.objects)))) None) (fits-image s.parameters i.objects)
          ∙ by_fit i.schema s got i.objects state (fits task s i.objects) refl

  instance_twice : (i : Instance) → image_of_instance to (image_of_instance to i) ≡ i
  instance_twice i = λ k. record { schema = i.schema; objects = twice to symmetry.both_ways i.objects k }

  -- the cost of an applicable instance
  pub cost-image : (state next : State) (i : Instance) → step task state i ≡ Some next → cost_of task (image_of_instance to i) ≡ cost_of task i
  cost-image state next i leads = ap (λ c. cond task.has_metric c 1) (by_found (slice_get task.schemas i.schema) refl leads)
    where
      by_found : (found : Option Schema) → slice_get task.schemas i.schema ≡ found
          → option_and_then (λ (s : Schema). cond (fits task s i.objects && can_apply task s i.objects state) (Some (after_changes task state (changes_of task s.effect i.objects))) None) found ≡ Some next
          → option_map_or (λ (s : Schema). unwrap_or (amount_of task s.increase (map to i.objects)) 0) found 0 ≡ option_map_or (λ (s : Schema). unwrap_or (amount_of task s.increase i.objects) 0) found 0
      by_found None got leads = refl
      by_found (Some s) got leads =
          let can = (cond_some (fits task s i.objects && can_apply task s i.objects state) _ _ leads).0 in
          let fit = (and_parts (fits task s i.objects) (can_apply task s i.objects state) can).0 in
          ap (λ a. unwrap_or a 0) (amount-same i.schema s got i.objects fit)

  pub is_automorphism : IsAutomorphism (system_of task) (image_of_state to) (image_of_instance to)
  is_automorphism = record {
    permutes_states = (image_of_state to, state_twice to symmetry.both_ways, state_twice to symmetry.both_ways);
    permutes_actions = (image_of_instance to, instance_twice, instance_twice);
    steps = step-image;
    costs = cost-image;
    goals = goal-image task to symmetry (second_so _ _ well);
  }

pub symmetries_keep_meaning : SymmetriesKeepMeaning
symmetries_keep_meaning task to symmetry = record {
  formulas = λ formula scope binding s typed long. holds-image task to symmetry formula scope binding s typed long;
  effects = λ effect scope binding s typed long. after-image task to symmetry effect scope binding s typed long;
}

pub symmetries_are_automorphisms : SymmetriesAreAutomorphisms
symmetries_are_automorphisms task to well symmetry = is_automorphism task well to symmetry
