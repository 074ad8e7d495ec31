-- Why a plan stops at a step, or misses the goal.
use Rattle.std.specs.Prelude.{◌≡◌, ℕ, ◌-◌, ◌<◌, Bool, true, false, ◌&&◌, not, IsTrue, List, [], ◌∷◌, length, map, take, get_or, slice_get, Option, None, Some, IsSome, is_some, refl}
use Rattle.std.proofs.Common.{sym, ◌∙◌, ap, subst, zero, suc, arith, true≢false}
use Rattle.std.specs.Cmp.{first_so, second_so}
use Rattle.std.specs.List.{list_all}
use Rattle.std.specs.Option.{option_map, option_map_or, option_and_then}
use Rattle.std.proofs.lemmas.List.{length-map, take-map}
use Rattle.std.proofs.lemmas.Option.{none-some, slice_get_within}
use Rattle.formulas.specs.declared.instance.Instance.{Instance}
use Rattle.formulas.specs.State.{instance_of}
use Rattle.task.specs.TaskParts.{shape_of_schema}
use Rattle.task.proofs.Shapes.{Shape, found}
use Rattle.explain_plans.specs.declared.explanations.Reasons.{Reasons}
use Rattle.explain_plans.specs.Explanations.{AreReasons, IsWhyNotApplicable}
use Rattle.task.specs.VariableNames.{VariableNames, names_of_action}
use Rattle.model.specs.Task as task
use Rattle.model.specs.Meaning.{State, amount_of, fits, initial_state, is_instance, system_of}
use Rattle.model.specs.Runs.{StopsAt, run}
use Rattle.model.proofs.Tests.{passes_got}
use Rattle.validator.proofs.VerdictRuns.{occurs}

-- the first elements of a list whose elements all pass
passes_first : {X : Type 0} (p : X → Bool) (n : ℕ) (xs : List X) → list_all p xs ≡ true → list_all p (take n xs) ≡ true
passes_first p zero xs all = refl
passes_first p (suc n) [] all = refl
passes_first p (suc n) (x ∷ xs) all = λ i. first_so (p x) (list_all p xs) all i && passes_first p n xs (second_so (p x) (list_all p xs) all) i

pub turned : (a b : Bool) → a ≡ not b → b ≡ not a
turned a true e = sym (ap not e)
turned a false e = sym (ap not e)

-- an instance's schema exists
schema_there : (t : task.Task) (i : task.Instance) → IsTrue (is_instance t i) → (s : task.Schema) × (slice_get t.schemas i.schema ≡ Some s)
schema_there t i is =
    elim (slice_get t.schemas i.schema) as (λ o. slice_get t.schemas i.schema ≡ o → option_map_or (λ s. fits t s i.objects) o false ≡ true
    → (s : task.Schema) × (slice_get t.schemas i.schema ≡ Some s)) [
      | None ↦ λ e none. absurd (true≢false (sym none))
      | Some s ↦ λ e fit. (s, e)
    ] refl is

module _ (t : task.Task) (steps : List Instance) (plan : List task.Instance) (same : map instance_of steps ≡ plan) (n : ℕ) (h : StopsAt (system_of t) plan n) where
  -- the step exists
  pub within : n - 1 < length steps
  within =
      let lt = slice_get_within plan (n - 1) h.next h.found_there in
      let counts = sym (ap length same) ∙ length-map steps instance_of in
      omega (arith, lt, counts)

  pub is_there : (item : Instance) → item ≡ get_or steps (n - 1) item → slice_get plan (n - 1) ≡ Some (instance_of item)
  is_there item at = occurs steps plan (n - 1) item same within at

  -- the steps before it, which run
  firsts : map instance_of (take (n - 1) steps) ≡ take (n - 1) plan
  firsts = sym (take-map instance_of (n - 1) steps) ∙ ap (take (n - 1)) same

  pub before_leads : (before : List Instance) → before ≡ take (n - 1) steps → (s : State) → run (system_of t) (initial_state t) (take (n - 1) plan) ≡ Some s
      → run (system_of t) (initial_state t) (map instance_of before) ≡ Some s
  before_leads before is s leads = subst (λ l. run (system_of t) (initial_state t) l ≡ Some s) (sym (ap (map instance_of) is ∙ firsts)) leads

  module _ (all : IsTrue (list_all (is_instance t) plan)) where
    pub before_all : (before : List Instance) → before ≡ take (n - 1) steps → IsTrue (list_all (is_instance t) (map instance_of before))
    before_all before is =
        subst (λ l. list_all (is_instance t) l ≡ true) (sym (ap (map instance_of) is ∙ firsts)) (passes_first (is_instance t) (n - 1) plan all)

    module _ (item : Instance) (at : item ≡ get_or steps (n - 1) item) where
      pub step_is_one : IsTrue (is_instance t (instance_of item))
      step_is_one = passes_got (is_instance t) plan (n - 1) (instance_of item) (is_there item at) all

      -- and the step's schema
      pub schema_is_some : {X : Type 0} (view : X → Shape) (o : Option X) → option_map view o ≡ option_map shape_of_schema (slice_get t.schemas (instance_of item).schema) → IsSome o
      schema_is_some view o shape =
          let s = schema_there t (instance_of item) step_is_one in
          was_some view o (shape_of_schema s.0) (shape ∙ ap (option_map shape_of_schema) s.1)
        where
          was_some : {X : Type 0} (view : X → Shape) (p : Option X) (y : Shape) → option_map view p ≡ Some y → IsSome p
          was_some view None y e = absurd (none-some y e)
          was_some view (Some x) y e = refl

      module _ (shape : Shape) (is : Some shape ≡ option_map shape_of_schema (slice_get t.schemas (instance_of item).schema))
          (amount : Option ℕ) (amounts : amount ≡ option_and_then (λ s. amount_of t s.increase (instance_of item).objects) (slice_get t.schemas (instance_of item).schema))
          (lacks : Bool) (lacking : lacks ≡ not (is_some amount)) (reasons : Reasons) (before : List Instance) (first : before ≡ take (n - 1) steps)
          (names : VariableNames) (those : List task.Name) (named : those ≡ names_of_action names (instance_of item).schema)
          (why : AreReasons t (map instance_of before) shape.1 (instance_of item).objects those reasons) where
        pub reported : IsWhyNotApplicable t names plan n lacks reasons
        reported =
            let s = found (slice_get t.schemas (instance_of item).schema) shape is in
            record {
              instance = instance_of item;
              schema = s.0;
              found_there = is_there item at;
              is_its_schema = s.1;
              cost = lacking ∙ ap (λ o. not (is_some o)) (amounts ∙ ap (option_and_then (λ (x : task.Schema). amount_of t x.increase (instance_of item).objects)) s.1);
              precondition = subst (λ f. AreReasons t (take (n - 1) plan) f (instance_of item).objects (names_of_action names (instance_of item).schema) reasons) (ap (λ (x : Shape). x.1) s.2)
                  (subst (λ l. AreReasons t l shape.1 (instance_of item).objects (names_of_action names (instance_of item).schema) reasons) (ap (map instance_of) first ∙ firsts)
                  (subst (λ ns. AreReasons t (map instance_of before) shape.1 (instance_of item).objects ns reasons) named why));
            }
