-- What solves one of two bisimilar systems solves the other, at the same cost.
use Rattle.std.proofs.Common.{◌≡◌, ◌∙◌, ℕ, ◌≤◌, List, [], ◌∷◌, None, Some, refl, sym, ap, subst, arith}
use Rattle.std.proofs.lemmas.List.Sums.{sum_by-cons}
use Rattle.std.specs.List.{AllZip}
use Rattle.std.specs.Option.{option_and_then}
use Rattle.model.specs.Runs.{System, run, cost_of_all, Solves, CostsAtLeast, IsOptimal, IsUnsolvable, IsReachable}
use Rattle.model.specs.Bisimulation.{IsBisimulation, SolveAlike}

-- the first step of a run, and the run from there
first_step : {S A : Type 0} (t : System S A) (s end : S) (a : A) (plan : List A) → run t s (a ∷ plan) ≡ Some end
    → (next : S) × (t.step s a ≡ Some next) × (run t next plan ≡ Some end)
first_step {S} {A} t s end a plan runs =
    elim (t.step s a) as (λ o. t.step s a ≡ o → option_and_then (λ next. run t next plan) o ≡ Some end → (next : S) × (t.step s a ≡ Some next) × (run t next plan ≡ Some end)) [
      | None ↦ λ _ none. absurd (cc)
      | Some next ↦ λ leads on. (next, leads, on)
    ] refl runs

then_run : {S A : Type 0} (t : System S A) (s next end : S) (a : A) (plan : List A) → t.step s a ≡ Some next → run t next plan ≡ Some end → run t s (a ∷ plan) ≡ Some end
then_run t s next end a plan leads on = ap (option_and_then (λ n. run t n plan)) leads ∙ on

-- the converse
abbrev flip : {X Y : Type 0} → (X → Y → Type 0) → Y → X → Type 0
flip relation y x = relation x y

flipped_lists : {A B : Type 0} (names : A → B → Type 0) (xs : List A) (ys : List B) → AllZip (flip names) ys xs → AllZip names xs ys
flipped_lists names [] [] named = tt
flipped_lists names [] (y ∷ ys) named = absurd (named)
flipped_lists names (x ∷ xs) [] named = absurd (named)
flipped_lists names (x ∷ xs) (y ∷ ys) named = (named.0, flipped_lists names xs ys named.1)

pub flipped : {S A T B : Type 0} (t : System S A) (u : System T B) (same : S → T → Type 0) (names : A → B → Type 0) → IsBisimulation t u same names
    → IsBisimulation u t (flip same) (flip names)
flipped t u same names both = record {
  initial = both.initial;
  forth = λ s' s b next' now leads. both.back s s' b next' now leads;
  back = λ s' s a next now leads. both.forth s s' a next now leads;
  goals = λ s' s now. sym (both.goals s s' now);
  costs = λ b a named. sym (both.costs a b named);
}

module _ {S A T B : Type 0} (t : System S A) (u : System T B) (same : S → T → Type 0) (names : A → B → Type 0) (both : IsBisimulation t u same names) where
  pub run_forth : (plan : List A) (s : S) (s' : T) (end : S) → same s s' → run t s plan ≡ Some end
      → (plan' : List B) × (end' : T) × AllZip names plan plan' × (run u s' plan' ≡ Some end') × same end end'
  run_forth [] s s' end now runs = let is : s ≡ end = cc in ([], s', tt, refl, subst (λ e. same e s') is now)
  run_forth (a ∷ plan) s s' end now runs =
      let first = first_step t s end a plan runs in
      let other = both.forth s s' a first.0 now first.1 in
      let rest = run_forth plan first.0 other.1 end other.4 first.2 in
      (other.0 ∷ rest.0, rest.1, (other.2, rest.2), then_run u s' other.1 rest.1 other.0 rest.0 other.3 rest.3, rest.4)

  pub same_cost : (plan : List A) (plan' : List B) → AllZip names plan plan' → cost_of_all t plan ≡ cost_of_all u plan'
  same_cost [] [] named = refl
  same_cost [] (b ∷ plan') named = absurd (named)
  same_cost (a ∷ plan) [] named = absurd (named)
  same_cost (a ∷ plan) (b ∷ plan') named = omega (arith, sum_by-cons t.cost a plan, sum_by-cons u.cost b plan', both.costs a b named.0, same_cost plan plan' named.1)

  pub solves_forth : (plan : List A) → Solves t plan → (plan' : List B) × AllZip names plan plan' × Solves u plan'
  solves_forth plan (end, runs, goal) =
      let other = run_forth plan t.initial u.initial end both.initial runs in
      (other.0, other.2, (other.1, other.3, sym (both.goals end other.1 other.4) ∙ goal))

  pub reachable_forth : (s : S) → IsReachable t s → (s' : T) × same s s' × IsReachable u s'
  reachable_forth s (plan, runs) =
      let other = run_forth plan t.initial u.initial s both.initial runs in
      (other.1, other.4, (other.0, other.3))

module _ {S A T B : Type 0} (t : System S A) (u : System T B) (same : S → T → Type 0) (names : A → B → Type 0) (both : IsBisimulation t u same names) where
  pub solves_back : (plan' : List B) → Solves u plan' → (plan : List A) × AllZip names plan plan' × Solves t plan
  solves_back plan' solves =
      let other = solves_forth u t (flip same) (flip names) (flipped t u same names both) plan' solves in
      (other.0, flipped_lists names other.0 plan' other.1, other.2)

  pub reachable_back : (s' : T) → IsReachable u s' → (s : S) × same s s' × IsReachable t s
  reachable_back s' reached = reachable_forth u t (flip same) (flip names) (flipped t u same names both) s' reached

  pub bound_forth : (least : ℕ) → CostsAtLeast t least → CostsAtLeast u least
  bound_forth least all plan' solves =
      let other = solves_back plan' solves in
      subst (λ cost. least ≤ cost) (same_cost t u same names both other.0 plan' other.1) (all other.0 other.2)

  pub optimal_forth : (plan : List A) → IsOptimal t plan → (plan' : List B) × AllZip names plan plan' × IsOptimal u plan'
  optimal_forth plan (solves, least) =
      let other = solves_forth t u same names both plan solves in
      (other.0, other.1, (other.2, subst (λ cost. CostsAtLeast u cost) (same_cost t u same names both plan other.0 other.1) (bound_forth (cost_of_all t plan) least)))

  pub unsolvable_forth : IsUnsolvable t → IsUnsolvable u
  unsolvable_forth never plan' solves = let other = solves_back plan' solves in never other.0 other.2

-- optimality, lower bounds and unsolvability hold on both sides
pub solve_alike : {S A T B : Type 0} (t : System S A) (u : System T B) (same : S → T → Type 0) (names : A → B → Type 0) → IsBisimulation t u same names → SolveAlike t u names
solve_alike t u same names both = record {
  optimal = optimal_forth t u same names both;
  optimal_back = λ plan' optimal.
      let other = optimal_forth u t (flip same) (flip names) (flipped t u same names both) plan' optimal in
      (other.0, flipped_lists names other.0 plan' other.1, other.2);
  bound = bound_forth t u same names both;
  bound_back = bound_forth u t (flip same) (flip names) (flipped t u same names both);
  unsolvable = unsolvable_forth t u same names both;
  unsolvable_back = unsolvable_forth u t (flip same) (flip names) (flipped t u same names both);
}
