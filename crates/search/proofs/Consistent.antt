-- What a consistent estimate is below.
use Rattle.std.proofs.Common.{◌≡◌, ℕ, ◌+◌, ◌≤◌, List, [], ◌∷◌, None, Some, refl, ap, arith}
use Rattle.std.specs.Option.{option_and_then}
use Rattle.std.proofs.lemmas.Option.{same_Some}
use Rattle.std.proofs.lemmas.List.Sums.{sum_by-cons}
use Rattle.model.specs.Runs.{System, run, cost_of_all}
use Rattle.search.specs.Estimates.{IsAdmissible, IsConsistent}

module _ {S A : Type 0} (t : System S A) (value : S → ℕ) (consistent : IsConsistent t value) where
  -- along a list of actions it falls by no more than what they cost
  pub falls_along : (plan : List A) (s end : S) → run t s plan ≡ Some end → value s ≤ cost_of_all t plan + value end
  falls_along [] s end runs =
      let same : s ≡ end = same_Some s end runs in
      let equal : value s ≡ value end = ap value same in
      omega (arith, equal)
  falls_along (a ∷ plan) s end runs =
      elim (t.step s a) as (λ o. t.step s a ≡ o → option_and_then (λ next. run t next plan) o ≡ Some end → value s ≤ cost_of_all t (a ∷ plan) + value end) [
        | None ↦ λ _ none. absurd (cc)
        | Some next ↦ λ leads on. omega (arith, consistent.falls_by_no_more s next a leads, falls_along plan next end on, sum_by-cons t.cost a plan)
      ] refl runs

  -- so that it is at most what is still to pay
  pub admissible : IsAdmissible t value
  admissible s end plan runs goal = omega (arith, falls_along plan s end runs, consistent.zero_at_goals end goal)
