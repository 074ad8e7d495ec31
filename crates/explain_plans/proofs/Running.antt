-- Lists of actions that are applicable in order, one action after another.
use Rattle.std.specs.Prelude.{◌≡◌, ℕ, ◌+◌, ◌<◌, IsTrue, List, [], ◌∷◌, length, map, take, get_or, slice_get, Option, None, Some, IsSome, refl}
use Rattle.std.proofs.Common.{sym, ◌∙◌, ap, zero, suc}
use Rattle.std.specs.List.{list_all}
use Rattle.std.specs.Option.{option_and_then, option_map}
use Rattle.std.proofs.lemmas.Option.{none-some, same_Some}
use Rattle.formulas.specs.declared.instance.Instance.{Instance}
use Rattle.formulas.specs.declared.state.State.{State}
use Rattle.formulas.specs.State.{state_of, instance_of}
use Rattle.explain_plans.specs.Histories.{DoRun}
use Rattle.model.specs.Task as task
use Rattle.model.specs.Meaning as meaning
use Rattle.model.specs.Meaning.{initial_state, is_instance, step, system_of}
use Rattle.model.specs.Runs.{System, run}
use Rattle.model.proofs.Tests.{passes_got}
use Rattle.validator.proofs.VerdictRuns.{occurs, run_more}

module _ {S A : Type 0} (t : System S A) where
  -- if a list runs, each of its actions is applicable in turn
  pub may_continue : (s now last : S) (plan : List A) (i : ℕ) (a : A) → slice_get plan i ≡ Some a → run t s (take i plan) ≡ Some now → run t s plan ≡ Some last
      → (next : S) × (t.step now a ≡ Some next)
  may_continue s now last [] i a here so whole = absurd (none-some a here)
  may_continue s now last (x ∷ plan) zero a here so whole =
      elim (t.step s x) as (λ o. t.step s x ≡ o → (next : S) × (t.step now a ≡ Some next)) [
        | None ↦ λ e. absurd (none-some last (sym (ap (option_and_then (λ n. run t n plan)) e) ∙ whole))
        | Some n ↦ λ e. (n, (λ j. t.step (sym (same_Some s now so) j) (sym (same_Some x a here) j)) ∙ e)
      ] refl
  may_continue s now last (x ∷ plan) (suc i) a here so whole =
      elim (t.step s x) as (λ o. t.step s x ≡ o → (next : S) × (t.step now a ≡ Some next)) [
        | None ↦ λ e. absurd (none-some last (sym (ap (option_and_then (λ n. run t n plan)) e) ∙ whole))
        | Some n ↦ λ e.
            may_continue n now last plan i a here (sym (ap (option_and_then (λ m. run t m (take i plan))) e) ∙ so)
            (sym (ap (option_and_then (λ m. run t m plan)) e) ∙ whole)
      ] refl

-- the code's steps, up to this one
module _ (t : task.Task) (steps : List Instance) (i : ℕ) (item : Instance) (lt : i < length steps) (at : item ≡ get_or steps i item) where
  here : slice_get (map instance_of steps) i ≡ Some (instance_of item)
  here = occurs steps (map instance_of steps) i item refl lt at

  -- the step is an instance of the task if all are
  pub is_one : IsTrue (list_all (is_instance t) (map instance_of steps)) → IsTrue (is_instance t (instance_of item))
  is_one all = passes_got (is_instance t) (map instance_of steps) i (instance_of item) here all

  module _ (now : meaning.State) (runs : run (system_of t) (initial_state t) (take i (map instance_of steps)) ≡ Some now)
      (o : Option State) (is : option_map state_of o ≡ step t now (instance_of item)) where
    -- it is applicable, and one more step has run
    pub is_applicable : DoRun t (map instance_of steps) → IsSome o
    is_applicable whole =
        let next = may_continue (system_of t) (initial_state t) now whole.0 (map instance_of steps) i (instance_of item) here runs whole.1 in
        was_some o next.0 (is ∙ next.1)
      where
        was_some : (p : Option State) (s : meaning.State) → option_map state_of p ≡ Some s → IsSome p
        was_some None s e = absurd (none-some s e)
        was_some (Some q) s e = refl

    pub one_more : (next : State) → o ≡ Some next → run (system_of t) (initial_state t) (take (i + 1) (map instance_of steps)) ≡ Some (state_of next)
    one_more next e =
        run_more (system_of t) (map instance_of steps) i (instance_of item) here (initial_state t) now (state_of next) runs (sym is ∙ ap (option_map state_of) e)
