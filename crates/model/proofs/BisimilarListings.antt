-- A closed listing of one of two bisimilar systems, with each state replaced by a corresponding one, is a closed listing of the
-- other; and a bisimulation equivalence of the other is one of the first.
use Rattle.std.proofs.Common.{◌≡◌, ◌∙◌, ℕ, ◌+◌, ◌≤◌, List, map, Bool, refl, sym, ap, subst, arith}
use Rattle.std.specs.Prelude.{true, IsTrue}
use Rattle.model.specs.Runs.{System, IsReachable}
use Rattle.model.specs.Claims.{Claim, Allows, expanded, Line, IsListedWithin, IsClosed, IsLowerBound, AreDeadEnds}
use Rattle.model.specs.Bisimulation.{IsBisimulation, IsBisimulationEquivalence}
use Rattle.model.proofs.ListLemmas.{Contains-map, map-Contains}
use Rattle.model.proofs.BisimulationLemmas.{reachable_forth, run_forth, same_cost}

module _ {S A T B : Type 0} (t : System S A) (u : System T B) (view : S → T) (names : A → B → Type 0) (both : IsBisimulation t u (λ s s'. view s ≡ s') names) where
  -- the line lists the state of the other system
  abbrev pub line_of : Line S → Line T
  line_of line = record { state = view line.state; cost = line.cost; mark = line.mark }

  -- states whose views are related are related
  pub equivalence_back : (same : T → T → Type 0) → IsBisimulationEquivalence u same → IsBisimulationEquivalence t (λ s r. same (view s) (view r))
  equivalence_back same equivalence = record {
    itself = λ s. equivalence.itself (view s);
    turned = λ s r now. equivalence.turned (view s) (view r) now;
    joined = λ s r q now then_now. equivalence.joined (view s) (view r) (view q) now then_now;
    steps = λ s r next a now leads.
        let there = both.forth s (view s) a next refl leads in
        let led = equivalence.steps (view s) (view r) there.1 there.0 now there.3 in
        let here = both.back r (view r) led.0 led.1 refl led.2 in (
          here.0,
          here.1,
          here.3,
          both.costs here.0 led.0 here.2 ∙ led.3 ∙ sym (both.costs a there.0 there.2),
          subst (λ x. same x (view here.1)) (sym there.4) (subst (same there.1) (sym here.4) led.4),
        );
    goals = λ s r now. both.goals s (view s) refl ∙ equivalence.goals (view s) (view r) now ∙ sym (both.goals r (view r) refl);
  }

  module _ (alike : S → S → Type 0) (alike' : T → T → Type 0) (seen : (s r : S) → alike s r → alike' (view s) (view r)) where
    listed : (lines : List (Line S)) (s : S) (s' : T) (cost : ℕ) → view s ≡ s' → IsListedWithin alike lines s cost → IsListedWithin alike' (map line_of lines) s' cost
    listed lines s s' cost now (line, among, is, within) = (line_of line, Contains-map line_of lines line among, subst (alike' (view line.state)) now (seen line.state s is), within)

    pub closed_forth : (claim : Claim) (lines : List (Line S)) → IsClosed t alike claim lines → IsClosed u alike' claim (map line_of lines)
    closed_forth claim lines closed = record {
      initial_listed = listed lines t.initial u.initial 0 both.initial closed.initial_listed;
      successors_listed = λ line' b next' among is_open leads.
          let from = map-Contains line_of lines line' among in
          let line = from.0 in
          let was_open : line.mark ≡ expanded = ap (λ (l : Line T). l.mark) from.2 ∙ is_open in
          let other = both.back line.state line'.state b next' (ap (λ (l : Line T). l.state) from.2) leads in
          let there = closed.successors_listed line other.0 other.1 from.1 was_open other.3 in
          let same : line.cost + t.cost other.0 ≡ line'.cost + u.cost b = omega (arith, ap (λ (l : Line T). l.cost) from.2, both.costs other.0 b other.2) in
          listed lines other.1 next' (line'.cost + u.cost b) other.4 (subst (λ cost. IsListedWithin alike lines other.1 cost) same there);
      expanded_goals_allowed = λ line' among is_open goal.
          let from = map-Contains line_of lines line' among in
          let line = from.0 in
          let was_open : line.mark ≡ expanded = ap (λ (l : Line T). l.mark) from.2 ∙ is_open in
          let met : t.meets_goal line.state ≡ true = both.goals line.state line'.state (ap (λ (l : Line T). l.state) from.2) ∙ goal in
          subst (Allows claim) (ap (λ (l : Line T). l.cost) from.2) (closed.expanded_goals_allowed line from.1 was_open met);
      cuts_allowed = λ line' rest among is_cut.
          let from = map-Contains line_of lines line' among in
          let line = from.0 in
          let allowed = closed.cuts_allowed line rest from.1 (ap (λ (l : Line T). l.mark) from.2 ∙ is_cut) in
          subst (λ cost. Allows claim (cost + rest)) (ap (λ (l : Line T). l.cost) from.2) allowed;
    }

  -- lower bounds of the remaining cost in the other system are lower bounds in the first
  pub lower_bound_back : (value : S → ℕ) (value' : T → ℕ) → ((s : S) → value s ≤ value' (view s)) → IsLowerBound u value' → IsLowerBound t value
  lower_bound_back value value' values lower s end plan reached runs goal =
      let there = reachable_forth t u (λ s s'. view s ≡ s') names both s reached in
      let other = run_forth t u (λ s s'. view s ≡ s') names both plan s (view s) end refl runs in
      omega (arith, values s, lower (view s) other.1 other.0 (subst (IsReachable u) (sym there.1) there.2) other.3 (sym (both.goals end other.1 other.4) ∙ goal), same_cost t u (λ s s'. view s ≡ s') names both plan other.0 other.2)

  -- true dead-end reports in the other system are true in the first
  pub dead_ends_back : (is_dead : S → Bool) (is_dead' : T → Bool) → ((s : S) → IsTrue (is_dead s) → IsTrue (is_dead' (view s))) → AreDeadEnds u is_dead' → AreDeadEnds t is_dead
  dead_ends_back is_dead is_dead' deaths dead_ends s end plan reached reported runs =
      let there = reachable_forth t u (λ s s'. view s ≡ s') names both s reached in
      let other = run_forth t u (λ s s'. view s ≡ s') names both plan s (view s) end refl runs in
      both.goals end other.1 other.4
      ∙ dead_ends (view s) other.1 other.0 (subst (IsReachable u) (sym there.1) there.2) (deaths s reported) other.3
