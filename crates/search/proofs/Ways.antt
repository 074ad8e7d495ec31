-- Where lists of actions come to, among the found states.
use Rattle.std.proofs.Common.{◌≡◌, ℕ, ◌+◌, ◌≤◌, ◌⊎◌, inl, inr, List, [], ◌∷◌, Bool, None, Some, true, false, refl, sym, ap, ◌∙◌, subst, arith}
use Rattle.std.specs.Prelude.{slice_get}
use Rattle.std.specs.Option.{option_and_then}
use Rattle.std.proofs.lemmas.Bool.{false≢true}
use Rattle.std.proofs.lemmas.Option.{same_Some}
use Rattle.std.proofs.lemmas.List.Sums.{sum_by-cons}
use Rattle.model.specs.Runs.{System, run, cost_of_all}
use Rattle.search.specs.Estimates.{IsConsistent}
use Rattle.search.specs.DeadEnds.{DetectsDeadEnds}
use Rattle.search.specs.Outcome.{AreOwnClasses, is_expanded, ReachingCostsAtLeast}
use Rattle.search.specs.Nodes.{Waiting, Found, IsWaiting, total_of, AreNodes, IsFoundWithin, AreClosed}
use Rattle.search.proofs.Consistent.{falls_along}
use Rattle.search.proofs.DeadEnds.{dead_along}

module _ {S : Type 0} (t : System S ℕ) (class_of : S → S) (own : AreOwnClasses class_of) (value : S → ℕ) (is_dead : S → Bool) (consistent : IsConsistent t value) (detects : DetectsDeadEnds t is_dead)
    (nodes : List (Found S)) (are_open : AreClosed t class_of nodes)
    (least : ℕ) (at_least : (k : ℕ) (n : Found S) → slice_get nodes k ≡ Some n → IsWaiting is_dead n → least ≤ total_of value n) where
  -- Where each state is a class of its own, a list that runs from a found state to one that is not reported dead comes to one that waits, or leads to one that is found
  -- at no more than the list costs. It comes to none that is reported dead.
  from_found : (plan : List ℕ) (end : S) (k : ℕ) (n : Found S) → is_dead end ≡ false → slice_get nodes k ≡ Some n → run t n.state plan ≡ Some end
      → (least ≤ n.node.cost + cost_of_all t plan + value end) ⊎ IsFoundWithin class_of nodes end (n.node.cost + cost_of_all t plan)
  from_found [] end k n alive at runs = inr (k, n, at, ap class_of (same_Some n.state end runs), omega arith)
  from_found (a ∷ plan) end k n alive at runs =
      elim (is_expanded n.node) as (λ b. is_expanded n.node ≡ b → (least ≤ n.node.cost + cost_of_all t (a ∷ plan) + value end) ⊎ IsFoundWithin class_of nodes end (n.node.cost + cost_of_all t (a ∷ plan))) [
        | false ↦ λ not_expanded.
            elim (is_dead n.state) as (λ d. is_dead n.state ≡ d → (least ≤ n.node.cost + cost_of_all t (a ∷ plan) + value end) ⊎ IsFoundWithin class_of nodes end (n.node.cost + cost_of_all t (a ∷ plan))) [
              | false ↦ λ living. inl (omega (arith, at_least k n at (not_expanded, living), falls_along t value consistent (a ∷ plan) n.state end runs))
              | true ↦ λ reported. absurd (false≢true (sym alive ∙ dead_along t is_dead detects (a ∷ plan) n.state end runs reported))
            ] refl
        | true ↦ λ expanded.
            elim (t.step n.state a) as (λ o. t.step n.state a ≡ o → option_and_then (λ next. run t next plan) o ≡ Some end
            → (least ≤ n.node.cost + cost_of_all t (a ∷ plan) + value end) ⊎ IsFoundWithin class_of nodes end (n.node.cost + cost_of_all t (a ∷ plan))) [
              | None ↦ λ _ none. absurd (cc)
              | Some next ↦ λ leads on.
                  let (j, m, there, alike, within) = are_open k n at expanded a next leads in
                  let is : m.state ≡ next = own m.state next alike in
                  let paid : cost_of_all t (a ∷ plan) ≡ t.cost a + cost_of_all t plan = sum_by-cons t.cost a plan in
                  elim (from_found plan end j m alive there (subst (λ (s : S). run t s plan ≡ Some end) (sym is) on)) [
                    | inl waits ↦ inl (omega (arith, waits, within, paid))
                    | inr (i, x, occurs, same, cheap) ↦ inr (i, x, occurs, same, omega (arith, cheap, within, paid))
                  ]
            ] refl runs
      ] refl

  -- a waiting state of the least sum is reached by a cheapest way
  pub cheapest_way : (now : S → ℕ) (now_dead : S → Bool) (open_list : List Waiting) → AreNodes t class_of now now_dead nodes open_list → (i : ℕ) (one : Found S) → slice_get nodes i ≡ Some one → is_dead one.state ≡ false
      → total_of value one ≤ least → ReachingCostsAtLeast t one.state one.node.cost
  cheapest_way now now_dead open_list old i one occurs alive is_least actions runs =
      let (root, at, is, free) = old.root in
      elim (from_found actions one.state 0 root alive at (subst (λ (s : S). run t s actions ≡ Some one.state) (sym is) runs)) [
        | inl waits ↦ omega (arith, waits, free, is_least)
        | inr (k, n, there, alike, within) ↦
            let place : k ≡ i = old.distinct k i n one there occurs (own n.state one.state alike) in
            let same_node : n ≡ one = same_Some n one (sym there ∙ ap (slice_get nodes) place ∙ occurs) in
            let same_cost : n.node.cost ≡ one.node.cost = ap (λ (x : Found S). x.node.cost) same_node in
            omega (arith, within, free, same_cost)
      ]
