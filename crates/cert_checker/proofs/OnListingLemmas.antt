-- A list of actions that solves stays on expanded states of a closed listing, up to a relation of states with the same steps, to its end or
-- until it comes to a cut.
use Rattle.std.proofs.Common.{◌≡◌, ℕ, zero, suc, ◌+◌, ◌<◌, ◌≤◌, List, [], ◌∷◌, length, take, drop, Option, None, Some, refl, sym, ap, ◌∙◌, subst, arith}
use Rattle.std.specs.Prelude.{Contains, IsTrue}
use Rattle.std.specs.Option.{option_and_then}
use Rattle.std.proofs.lemmas.Bool.{false≢true}
use Rattle.std.proofs.lemmas.Option.{same_Some}
use Rattle.std.proofs.lemmas.List.Sums.{sum_by-cons}
use Rattle.model.specs.Runs.{System, run, cost_of_all, Solves}
use Rattle.model.specs.Bisimulation.{IsBisimulationEquivalence}
use Rattle.model.specs.Claims.{Claim, expanded, cut, dead, Line, AreTrue, IsClosed}
use Rattle.model.proofs.ClaimsLemmas.{related_reach_alike}
use Rattle.cert_checker.specs.OnListing.{IsExpandedWithin, IsOnCut, StaysListed, to_its_end, to_a_cut}

module _ {S A : Type 0} (t : System S A) (same : S → S → Type 0) (lines : List (Line S)) where
  open_at_more : (s : S) (m n : ℕ) → IsExpandedWithin same lines s m → m ≤ n → IsExpandedWithin same lines s n
  open_at_more s m n at le = (at.0, at.1, at.2, omega (arith, at.3), at.4)

  -- a related state is listed as a cut at no more than this cost
  abbrev IsListedCut : S → ℕ → Type 0
  IsListedCut s cost = (line : Line S) × Contains lines line × same line.state s × (line.cost ≤ cost) × (rest : ℕ) × (line.mark ≡ cut rest)

  cut_at_more : (s : S) (m n : ℕ) → IsListedCut s m → m ≤ n → IsListedCut s n
  cut_at_more s m n at le = (at.0, at.1, at.2, omega (arith, at.3), at.4, at.5)

  -- the first n actions lead from this state, at this cost, to an expanded state, or to a cut
  abbrev ExpandedFrom : S → ℕ → List A → ℕ → Type 0
  ExpandedFrom from cost plan n = (s : S) × (run t from (take n plan) ≡ Some s) × IsExpandedWithin same lines s (cost + cost_of_all t (take n plan))

  abbrev CutFrom : S → ℕ → List A → ℕ → Type 0
  CutFrom from cost plan n = (s : S) × (run t from (take n plan) ≡ Some s) × IsListedCut s (cost + cost_of_all t (take n plan))

  data StaysFrom (from : S) (cost : ℕ) (plan : List A) : Type 0 where
    all_open : ((n : ℕ) → n ≤ length plan → ExpandedFrom from cost plan n) → StaysFrom from cost plan
    open_to : (n : ℕ) → n ≤ length plan → ((k : ℕ) → k < n → ExpandedFrom from cost plan k) → CutFrom from cost plan n → StaysFrom from cost plan

  -- what follows the first n actions of a list runs on from where they lead
  rest_runs : (plan : List A) (from s end : S) (n : ℕ) → run t from (take n plan) ≡ Some s → run t from plan ≡ Some end → run t s (drop n plan) ≡ Some end
  rest_runs [] from s end zero first whole = subst (λ (u : S). run t u [] ≡ Some end) (same_Some from s first) whole
  rest_runs [] from s end (suc n) first whole = subst (λ (u : S). run t u [] ≡ Some end) (same_Some from s first) whole
  rest_runs (a ∷ plan) from s end zero first whole = subst (λ (u : S). run t u (a ∷ plan) ≡ Some end) (same_Some from s first) whole
  rest_runs (a ∷ plan) from s end (suc n) first whole =
      elim (t.step from a) as (λ o. option_and_then (λ next. run t next (take n plan)) o ≡ Some s → option_and_then (λ next. run t next plan) o ≡ Some end → run t s (drop n plan) ≡ Some end) [
        | None ↦ λ none_runs _. absurd (cc)
        | Some next ↦ λ runs_first runs_whole. rest_runs plan next s end n runs_first runs_whole
      ] first whole

  -- one action before
  runs_before : (a : A) (plan : List A) (from next s : S) → t.step from a ≡ Some next → run t next plan ≡ Some s → run t from (a ∷ plan) ≡ Some s
  runs_before a plan from next s leads runs = ap (λ (o : Option S). option_and_then (λ u. run t u plan) o) leads ∙ runs

  costs_before : (a : A) (plan : List A) (cost there : ℕ) → there ≤ cost + t.cost a → there + cost_of_all t plan ≤ cost + cost_of_all t (a ∷ plan)
  costs_before a plan cost there le = omega (arith, sum_by-cons t.cost a plan)

  module _ (a : A) (plan : List A) (from next : S) (cost there : ℕ) (leads : t.step from a ≡ Some next) (le : there ≤ cost + t.cost a) where
    open_before : (n : ℕ) → ExpandedFrom next there plan n → ExpandedFrom from cost (a ∷ plan) (suc n)
    open_before n at =
        (at.0, runs_before a (take n plan) from next at.0 leads at.1, open_at_more at.0 _ _ at.2 (costs_before a (take n plan) cost there le))

    cut_before : (n : ℕ) → CutFrom next there plan n → CutFrom from cost (a ∷ plan) (suc n)
    cut_before n at =
        (at.0, runs_before a (take n plan) from next at.0 leads at.1, cut_at_more at.0 _ _ at.2 (costs_before a (take n plan) cost there le))

    stays_before : IsExpandedWithin same lines from cost → StaysFrom next there plan → StaysFrom from cost (a ∷ plan)
    stays_before here (all_open each) = all_open each_one
      where
        each_one : (n : ℕ) → n ≤ length (a ∷ plan) → ExpandedFrom from cost (a ∷ plan) n
        each_one zero within = (from, refl, open_at_more from cost _ here (omega arith))
        each_one (suc n) within = open_before n (each n (omega arith))
    stays_before here (open_to m within each at_last) = open_to (suc m) (omega arith) each_one (cut_before m at_last)
      where
        each_one : (k : ℕ) → k < suc m → ExpandedFrom from cost (a ∷ plan) k
        each_one zero below = (from, refl, open_at_more from cost _ here (omega arith))
        each_one (suc k) below = open_before k (each k (omega arith))

-- A closed listing, where states that are alike are related, and related states have the same steps.
module _ {S A : Type 0} (t : System S A) (alike same : S → S → Type 0) (equivalence : IsBisimulationEquivalence t same) (within : (s r : S) → alike s r → same s r)
    (claim : Claim) (lines : List (Line S)) (are_true : AreTrue t lines) (closed : IsClosed t alike claim lines) where
  at_cut : (plan : List A) (s : S) (line : Line S) (rest : ℕ) → Contains lines line → same line.state s → line.mark ≡ cut rest → StaysFrom t same lines s line.cost plan
  at_cut plan s line rest listed related is_cut = open_to 0 (omega arith) (λ k below. absurd (omega arith)) (s, refl, (line, listed, related, omega arith, rest, is_cut))

  at_end : (s : S) (line : Line S) → Contains lines line → same line.state s → line.mark ≡ expanded → StaysFrom t same lines s line.cost []
  at_end s line listed related is_open = all_open each
    where
      each : (n : ℕ) → n ≤ 0 → ExpandedFrom t same lines s line.cost [] n
      each zero low = (s, refl, (line, listed, related, omega arith, is_open))
      each (suc n) low = absurd (omega arith)

  -- no list that solves meets a state that is listed as a dead end
  at_dead : (plan : List A) (s : S) (line : Line S) (end : S) → Contains lines line → same line.state s → line.mark ≡ dead → run t s plan ≡ Some end → IsTrue (t.meets_goal end) → ⊥
  at_dead plan s line end listed related marked runs goal =
      let other = (related_reach_alike t same equivalence line.state s related).back plan end runs goal in
      false≢true (sym (are_true.dead_ends line other.1 other.0 listed marked other.2) ∙ other.3)

  -- from a state on to which a listed one is related
  from_line : (plan : List A) (s : S) (line : Line S) (end : S) → Contains lines line → same line.state s → run t s plan ≡ Some end → IsTrue (t.meets_goal end)
      → StaysFrom t same lines s line.cost plan
  from_line [] s line end listed related runs goal =
      elim line.mark as (λ m. line.mark ≡ m → StaysFrom t same lines s line.cost []) [
        | expanded ↦ λ is_open. at_end s line listed related is_open
        | cut rest ↦ λ is_cut. at_cut [] s line rest listed related is_cut
        | dead ↦ λ marked. absurd (at_dead [] s line end listed related marked runs goal)
      ] refl
  from_line (a ∷ plan) s line end listed related runs goal =
      elim line.mark as (λ m. line.mark ≡ m → StaysFrom t same lines s line.cost (a ∷ plan)) [
        | expanded ↦ λ is_open.
            elim (t.step s a) as (λ o. t.step s a ≡ o → option_and_then (λ next. run t next plan) o ≡ Some end → StaysFrom t same lines s line.cost (a ∷ plan)) [
              | None ↦ λ _ none_runs. absurd (cc)
              | Some next ↦ λ leads runs_on.
                  let led = equivalence.steps s line.state next a (equivalence.turned line.state s related) leads in
                  let there = closed.successors_listed line led.0 led.1 listed is_open led.2 in
                  let related_next = equivalence.joined there.0.state led.1 next (within there.0.state led.1 there.2) (equivalence.turned next led.1 led.4) in
                  stays_before t same lines a plan s next line.cost there.0.cost leads (omega (arith, there.3, led.3)) (line, listed, related, omega arith, is_open)
                  (from_line plan next there.0 end there.1 related_next runs_on goal)
            ] refl runs
        | cut rest ↦ λ is_cut. at_cut (a ∷ plan) s line rest listed related is_cut
        | dead ↦ λ marked. absurd (at_dead (a ∷ plan) s line end listed related marked runs goal)
      ] refl

  -- where a list that solves comes to a cut, the rest of the list costs at least what the cut stands for
  left_to_pay : (plan : List A) (solves : Solves t plan) (n : ℕ) (s : S) (line : Line S) (rest : ℕ)
      → run t t.initial (take n plan) ≡ Some s → Contains lines line → same line.state s → line.mark ≡ cut rest → rest ≤ cost_of_all t (drop n plan)
  left_to_pay plan solves n s line rest runs listed related is_cut =
      let others = rest_runs t same lines plan t.initial s solves.0 n runs solves.1 in
      let other = (related_reach_alike t same equivalence line.state s related).back (drop n plan) solves.0 others solves.2 in
      omega (arith, are_true.cuts line rest other.1 other.0 listed is_cut other.2 other.3, other.5)

  pub stays_listed : (plan : List A) → Solves t plan → StaysListed t same lines plan
  stays_listed plan solves =
      let there = closed.initial_listed in
      by_stay there.3 (from_line plan t.initial there.0 solves.0 there.1 (within there.0.state t.initial there.2) solves.1 solves.2)
    where
      on_cut : (n : ℕ) → CutFrom t same lines t.initial 0 plan n → IsOnCut t same lines plan n
      on_cut n there =
          let (s, runs, at) = there in
          let (line, listed, related, low, rest, is_cut) = at in
          (s, runs, (line, listed, related, omega (arith, low), rest, is_cut, omega (arith, low, left_to_pay plan solves n s line rest runs listed related is_cut)))

      by_stay : {cost : ℕ} → cost ≤ 0 → StaysFrom t same lines t.initial cost plan → StaysListed t same lines plan
      by_stay {cost} low (all_open each) = to_its_end (λ n below. let at = each n below in (at.0, at.1, open_at_more t same lines at.0 _ _ at.2 (omega arith)))
      by_stay {cost} low (open_to m below each at_last) =
          to_a_cut m below (λ k lower_k. let at = each k lower_k in (at.0, at.1, open_at_more t same lines at.0 _ _ at.2 (omega arith))) (on_cut m (at_last.0, at_last.1, cut_at_more t same lines at_last.0 _ _ at_last.2 (omega arith)))

-- equal states have the same steps
pub equality_keeps_steps : {S A : Type 0} (t : System S A) → IsBisimulationEquivalence t (λ s r. s ≡ r)
equality_keeps_steps t = record {
  itself = λ s. refl;
  turned = λ s r is. sym is;
  joined = λ s r q is are. is ∙ are;
  steps = λ s r next a is leads. (a, next, ap (λ x. t.step x a) (sym is) ∙ leads, refl, refl);
  goals = λ s r is. ap t.meets_goal is;
}
