-- A closed listing's claim is true.
use Rattle.std.proofs.Common.{◌≡◌, ◌∙◌, ℕ, zero, suc, ◌+◌, ◌≤◌, List, [], ◌∷◌, ◌++◌, None, Some, refl, sym, ap, subst, arith}
use Rattle.std.specs.Prelude.{IsTrue, length, Contains}
use Rattle.std.specs.List.{AllZip}
use Rattle.std.specs.Option.{option_and_then}
use Rattle.std.proofs.lemmas.Bool.{false≢true}
use Rattle.std.proofs.lemmas.List.Sums.{sum_by-cons}
use Rattle.std.proofs.lemmas.Option.{same_Some}
use Rattle.model.specs.Runs.{System, run, cost_of_all, IsReachable}
use Rattle.model.specs.Bisimulation.{IsBisimulation, IsBisimulationEquivalence, ReachesGoalsOf, ReachGoalsAlike}
use Rattle.model.specs.Claims.{Claim, bound, none, Allows, ClaimHolds, expanded, cut, dead, Line, AreTrue, IsClosed, ClosedListingsClaim}
use Rattle.model.proofs.BisimulationLemmas.{run_forth, same_cost}

Allows-≤ : (claim : Claim) (m n : ℕ) → Allows claim m → m ≤ n → Allows claim n
Allows-≤ (bound least) m n allowed le = omega arith
Allows-≤ none m n allowed le = allowed

-- ---- one more action

run_on : {S A : Type 0} (t : System S A) (plan : List A) (s before next : S) (a : A) → run t s plan ≡ Some before → t.step before a ≡ Some next
    → run t s (plan ++ a ∷ []) ≡ Some next
run_on t [] s before next a runs leads = ap (option_and_then (λ n. run t n [])) (subst (λ m. t.step m a ≡ Some next) (sym (same_Some s before runs)) leads)
run_on t (b ∷ plan) s before next a runs leads =
    elim (t.step s b) as (λ o. option_and_then (λ n. run t n plan) o ≡ Some before → option_and_then (λ n. run t n (plan ++ a ∷ [])) o ≡ Some next) [
      | None ↦ λ none_runs. absurd (cc)
      | Some n ↦ λ runs_on. run_on t plan n before next a runs_on leads
    ] runs

pub reachable_next : {S A : Type 0} (t : System S A) (s next : S) (a : A) → IsReachable t s → t.step s a ≡ Some next → IsReachable t next
reachable_next t s next a (actions, runs) leads = (actions ++ a ∷ [], run_on t actions t.initial s next a runs leads)

-- ---- related states

same_length : {A B : Type 0} (names : A → B → Type 0) (xs : List A) (ys : List B) → AllZip names xs ys → length xs ≡ length ys
same_length names [] [] named = refl
same_length names [] (y ∷ ys) named = absurd (named)
same_length names (x ∷ xs) [] named = absurd (named)
same_length names (x ∷ xs) (y ∷ ys) named = ap suc (same_length names xs ys named.1)

module _ {S A : Type 0} (t : System S A) (same : S → S → Type 0) (equivalence : IsBisimulationEquivalence t same) where
  abbrev CostSame : A → A → Type 0
  CostSame a b = t.cost a ≡ t.cost b

  with_itself : IsBisimulation t t same CostSame
  with_itself = record {
    initial = equivalence.itself t.initial;
    forth = λ s r a next now leads.
        let led = equivalence.steps s r next a now leads in
        (led.0, led.1, sym led.3, led.2, led.4);
    back = λ s r b next now leads.
        let led = equivalence.steps r s next b (equivalence.turned s r now) leads in
        (led.0, led.1, led.3, led.2, equivalence.turned next led.1 led.4);
    goals = equivalence.goals;
    costs = λ a b is. is;
  }

  reaches_goals : (s r : S) → same s r → ReachesGoalsOf t s r
  reaches_goals s r now plan end runs goal =
      let other = run_forth t t same CostSame with_itself plan s r end now runs in (
        other.0,
        other.1,
        other.3,
        sym (equivalence.goals end other.1 other.4) ∙ goal,
        sym (same_length CostSame plan other.0 other.2),
        sym (same_cost t t same CostSame with_itself plan other.0 other.2),
      )

  pub related_reach_alike : (s r : S) → same s r → ReachGoalsAlike t s r
  related_reach_alike s r now = record { forth = reaches_goals s r now; back = reaches_goals r s (equivalence.turned s r now) }

pub equal_reach_alike : {S A : Type 0} (t : System S A) (s r : S) → s ≡ r → ReachGoalsAlike t s r
equal_reach_alike {S} t s r is = record { forth = from s r is; back = from r s (sym is) }
  where
    from : (s r : S) → s ≡ r → ReachesGoalsOf t s r
    from s r is plan end runs goal = (plan, end, ap (λ x. run t x plan) (sym is) ∙ runs, goal, refl, refl)

-- ---- from a line on

module _ {S A : Type 0} (t : System S A) (alike : S → S → Type 0) (within : (s r : S) → alike s r → ReachGoalsAlike t s r)
    (claim : Claim) (lines : List (Line S)) (are_true : AreTrue t lines) (closed : IsClosed t alike claim lines) where
  at_cut : (plan : List A) (line : Line S) (end : S) (rest : ℕ) → Contains lines line → line.mark ≡ cut rest → run t line.state plan ≡ Some end
      → IsTrue (t.meets_goal end) → Allows claim (line.cost + cost_of_all t plan)
  at_cut plan line end rest listed is_cut runs goal =
      Allows-≤ claim (line.cost + rest) (line.cost + cost_of_all t plan) (closed.cuts_allowed line rest listed is_cut)
      (omega (arith, are_true.cuts line rest end plan listed is_cut runs goal))

  at_dead : (plan : List A) (line : Line S) (end : S) → Contains lines line → line.mark ≡ dead → run t line.state plan ≡ Some end
      → IsTrue (t.meets_goal end) → Allows claim (line.cost + cost_of_all t plan)
  at_dead plan line end listed marked runs goal =
      absurd (false≢true (sym (are_true.dead_ends line end plan listed marked runs) ∙ goal))

  at_open_goal : (line : Line S) (end : S) → Contains lines line → line.mark ≡ expanded → run t line.state [] ≡ Some end → IsTrue (t.meets_goal end)
      → Allows claim (line.cost + cost_of_all t [])
  at_open_goal line end listed is_open runs goal =
      let same : end ≡ line.state = cc in
      Allows-≤ claim line.cost (line.cost + cost_of_all t []) (closed.expanded_goals_allowed line listed is_open (subst (λ (s : S). IsTrue (t.meets_goal s)) same goal)) (omega arith)

  -- a list that leads from a listed state to a goal state has a cost that the claim allows, counted from the line's cost
  from_line : (n : ℕ) (plan : List A) (line : Line S) (end : S) → length plan ≡ n → Contains lines line → run t line.state plan ≡ Some end → IsTrue (t.meets_goal end)
      → Allows claim (line.cost + cost_of_all t plan)
  from_line n [] line end long listed runs goal =
      elim line.mark as (λ m. line.mark ≡ m → Allows claim (line.cost + cost_of_all t [])) [
        | expanded ↦ λ is_open. at_open_goal line end listed is_open runs goal
        | cut rest ↦ λ is_cut. at_cut [] line end rest listed is_cut runs goal
        | dead ↦ λ marked. at_dead [] line end listed marked runs goal
      ] refl
  from_line zero (a ∷ plan) line end long listed runs goal = absurd (cc)
  from_line (suc n) (a ∷ plan) line end long listed runs goal =
      elim line.mark as (λ m. line.mark ≡ m → Allows claim (line.cost + cost_of_all t (a ∷ plan))) [
        | expanded ↦ λ is_open.
            elim (t.step line.state a) as (λ o. t.step line.state a ≡ o → option_and_then (λ next. run t next plan) o ≡ Some end → Allows claim (line.cost + cost_of_all t (a ∷ plan))) [
              | None ↦ λ _ none_runs. absurd (cc)
              | Some next ↦ λ leads runs_on.
                  let there = closed.successors_listed line a next listed is_open leads in
                  let other = (within there.0.state next there.2).back plan end runs_on goal in
                  Allows-≤ claim (there.0.cost + cost_of_all t other.0) (line.cost + cost_of_all t (a ∷ plan))
                  (from_line n other.0 there.0 other.1 (omega (arith, other.4, long)) there.1 other.2 other.3)
                  (omega (arith, there.3, other.5, sum_by-cons t.cost a plan))
            ] refl runs
        | cut rest ↦ λ is_cut. at_cut (a ∷ plan) line end rest listed is_cut runs goal
        | dead ↦ λ marked. at_dead (a ∷ plan) line end listed marked runs goal
      ] refl

  pub claim-of_closed : ClaimHolds t claim
  claim-of_closed plan solves =
      let there = closed.initial_listed in
      let other = (within there.0.state t.initial there.2).back plan solves.0 solves.1 solves.2 in
      Allows-≤ claim (there.0.cost + cost_of_all t other.0) (cost_of_all t plan)
      (from_line (length other.0) other.0 there.0 other.1 refl there.1 other.2 other.3)
      (omega (arith, there.3, other.5))

pub closed_listings_claim : {S A : Type 0} (t : System S A) (alike : S → S → Type 0) → ClosedListingsClaim t alike
closed_listings_claim t alike within claim lines are_true closed = claim-of_closed t alike within claim lines are_true closed
