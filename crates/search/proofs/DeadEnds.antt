-- What a test for dead ends reports: from a state reported dead no list of actions leads to the goal.
use Rattle.std.proofs.Common.{◌≡◌, List, [], ◌∷◌, Bool, None, Some, refl, subst}
use Rattle.std.specs.Prelude.{IsTrue}
use Rattle.std.specs.Option.{option_and_then}
use Rattle.std.proofs.lemmas.Option.{same_Some}
use Rattle.model.specs.Runs.{System, run}
use Rattle.search.specs.DeadEnds.{DetectsDeadEnds, ReportsDeadEnds}

module _ {S A : Type 0} (t : System S A) (is_dead : S → Bool) (detects : DetectsDeadEnds t is_dead) where
  -- a list of actions leads from a state reported dead to one reported dead
  pub dead_along : (plan : List A) (s end : S) → run t s plan ≡ Some end → IsTrue (is_dead s) → IsTrue (is_dead end)
  dead_along [] s end runs dead = subst (λ (x : S). IsTrue (is_dead x)) (same_Some s end runs) dead
  dead_along (a ∷ plan) s end runs dead =
      elim (t.step s a) as (λ o. t.step s a ≡ o → option_and_then (λ next. run t next plan) o ≡ Some end → IsTrue (is_dead end)) [
        | None ↦ λ _ none. absurd (cc)
        | Some next ↦ λ leads on. dead_along plan next end on (detects.stays_dead s next a dead leads)
      ] refl runs

  -- so it is a dead end
  pub reports_dead_ends : ReportsDeadEnds t is_dead
  reports_dead_ends s dead end plan runs = detects.no_goal end (dead_along plan s end runs dead)
