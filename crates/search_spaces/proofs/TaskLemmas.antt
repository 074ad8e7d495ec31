-- What is so of the ground task is so of the task; and its goal is reached alike from states of one class.
use Rattle.std.proofs.Common.{◌≡◌, ◌∙◌, ℕ, Bool, List, [], ◌∷◌, length, map, None, Some, refl, sym, ap, subst, arith}
use Rattle.std.specs.Prelude.{All, IsTrue, slice_get}
use Rattle.std.specs.List.{list_all}
use Rattle.std.specs.Option.{option_and_then}
use Rattle.std.proofs.lemmas.List.{length-map}
use Rattle.packed_state.specs.Store.{AreDistinct}
use Rattle.search.specs.Outcome.{IsReachableAt}
use Rattle.symmetries.specs.declared.representatives.Representatives.{Representatives}
use Rattle.symmetries.specs.Representatives.{task_of, atoms_of, exchanges_of}
use Rattle.symmetries_definitions.specs.Symmetries.{is_symmetry}
use Rattle.symmetries_definitions.specs.Orbits.{keeps_atoms, ArePackedAlike}
use Rattle.symmetries_definitions.proofs.PackedOrbits.{goals_are_reached_alike}
use Rattle.model.specs.Task.{Atom, Instance, Task}
use Rattle.model.specs.Runs.{System, run, cost_of_all, CostsAtLeast, IsReachable, IsUnsolvable}
use Rattle.model.specs.Meaning.{State, system_of}
use Rattle.model.specs.WellTyped.{is_task}
use Rattle.model.specs.Fluents.{is_fluent}
use Rattle.model.specs.NumberedAtoms.{numbered_atoms}
use Rattle.model.specs.Bisimulation.{IsBisimulation, ReachGoalsAlike}
use Rattle.model.specs.Grounding.{state_of_bits, ground_system, StandsFor, NamesKept}
use Rattle.model.proofs.ListLemmas.{Contains-got, map-Contains}
use Rattle.model.proofs.BisimulationLemmas.{run_forth, same_cost, bound_forth, unsolvable_forth}
use Rattle.model.proofs.ClaimsLemmas.{equal_reach_alike}
use Rattle.model.proofs.GroundTaskLemmas.{length-step, ground_task_is_bisimilar}
use Rattle.search_spaces.specs.Reachable.{PrecedesPlans, is_initial, is_next, AreMoreReachable, AreReachable}
use Rattle.search_spaces.specs.SearchSpace as search_space
use Rattle.search_spaces.specs.SearchSpace.{IsSearchSpace, ClassesReachGoalsAlike}
use Rattle.search_spaces.specs.declared.search_space.SearchSpace.TheVariants as space
use Rattle.search_spaces.proofs.GroundLemmas.{distinct_states}

module _ (task : Task) (atoms : List Atom) (numbered : atoms ≡ numbered_atoms task []) where
  abbrev none_more : All (λ (a : Atom). IsTrue (is_fluent task a.predicate)) []
  none_more = λ k d below. absurd (omega (arith, below))

  abbrev t : System (List Bool) ℕ
  t = ground_system task atoms

  abbrev u : System State Instance
  u = system_of task

  abbrev view : List Bool → State
  view = state_of_bits task atoms

  pub ground_does : IsBisimulation t u (StandsFor task atoms) (NamesKept task)
  ground_does = subst (λ (l : List Atom). IsBisimulation (ground_system task l) u (StandsFor task l) (NamesKept task)) (sym numbered) (ground_task_is_bisimilar task [] none_more)

  -- ---- what is reachable

  length-run : (plan : List ℕ) (bits end : List Bool) → length bits ≡ length atoms → run t bits plan ≡ Some end → length end ≡ length atoms
  length-run [] bits end long runs = let same : bits ≡ end = cc in ap length (sym same) ∙ long
  length-run (n ∷ plan) bits end long runs =
      elim (t.step bits n) as (λ o. t.step bits n ≡ o → option_and_then (λ next. run t next plan) o ≡ Some end → length end ≡ length atoms) [
        | None ↦ λ _ none. absurd (cc)
        | Some next ↦ λ leads on. length-run plan next end (length-step task atoms bits next n leads) on
      ] refl runs

  pub length-reachable : (bits : List Bool) → IsReachable t bits → length bits ≡ length atoms
  length-reachable bits reached = length-run reached.0 t.initial bits (length-map atoms _) reached.1

  precedes : (bits : List Bool) → PrecedesPlans t bits → PrecedesPlans u (view bits)
  precedes bits (is_initial is) = is_initial (ap view is ∙ ground_does.initial)
  precedes bits (is_next actions before number runs missed cheap leads) =
      let other = run_forth t u (StandsFor task atoms) (NamesKept task) ground_does actions t.initial u.initial before ground_does.initial runs in
      let next = ground_does.forth before other.1 number bits other.4 leads in
      let paid = same_cost t u (StandsFor task atoms) (NamesKept task) ground_does actions other.0 other.2 in
      is_next other.0 other.1 next.0 other.3 (sym (ground_does.goals before other.1 other.4) ∙ missed)
      (subst (λ cost. CostsAtLeast u cost) paid (bound_forth t u (StandsFor task atoms) (NamesKept task) ground_does (cost_of_all t actions) cheap))
      (next.3 ∙ ap Some (sym next.4))

  -- at the same cost
  pub reached_at : (bits : List Bool) (cost : ℕ) → IsReachableAt t bits cost → IsReachableAt u (view bits) cost
  reached_at bits cost (actions, runs, paid) =
      let other = run_forth t u (StandsFor task atoms) (NamesKept task) ground_does actions t.initial u.initial bits ground_does.initial runs in
      let as_much = same_cost t u (StandsFor task atoms) (NamesKept task) ground_does actions other.0 other.2 in
      (other.0, other.3 ∙ ap Some (sym other.4), sym as_much ∙ paid)

  pub reached : (bits : List Bool) → IsReachable t bits → IsReachable u (view bits)
  reached bits (actions, runs) = let there = reached_at bits (cost_of_all t actions) (actions, runs, refl) in (there.0, there.1)

  distinct_seen : (states : List (List Bool)) → ((k : ℕ) (bits : List Bool) → slice_get states k ≡ Some bits → length bits ≡ length atoms) → AreDistinct states → AreDistinct (map view states)
  distinct_seen =
      subst (λ (l : List Atom). (states : List (List Bool)) → ((k : ℕ) (bits : List Bool) → slice_get states k ≡ Some bits → length bits ≡ length l) → AreDistinct states
      → AreDistinct (map (state_of_bits task l) states)) (sym numbered) (distinct_states task)

  pub more_reachable : (max_states : ℕ) → AreMoreReachable t max_states → AreMoreReachable u max_states
  more_reachable max_states (states, distinct, preceding, more) = (
    map view states,
    distinct_seen states (λ k bits at. length-reachable bits (preceding bits (Contains-got states k bits at)).0) distinct,
    λ s among.
        let from = map-Contains view states s among in
        let (reaches, comes) = preceding from.0 from.1 in
        subst (λ (there : State). IsReachable u there × PrecedesPlans u there) from.2 (reached from.0 reaches, precedes from.0 comes),
    omega (arith, more, length-map states view),
  )

  pub as_many_reachable : (count : ℕ) → AreReachable t count → AreReachable u count
  as_many_reachable count (states, distinct, reaches, long) = (
    map view states,
    distinct_seen states (λ k bits at. length-reachable bits (reaches bits (Contains-got states k bits at))) distinct,
    λ s among. let from = map-Contains view states s among in subst (IsReachable u) from.2 (reached from.0 (reaches from.0 from.1)),
    length-map states view ∙ long,
  )

  -- ---- what is so of all lists

  pub task_costs_at_least : (least : ℕ) → CostsAtLeast t least → CostsAtLeast u least
  task_costs_at_least least lower = bound_forth t u (StandsFor task atoms) (NamesKept task) ground_does least lower

  pub task_unsolvable : IsUnsolvable t → IsUnsolvable u
  task_unsolvable unsolvable = unsolvable_forth t u (StandsFor task atoms) (NamesKept task) ground_does unsolvable

-- ---- classes

alike_by : (r : Representatives) → IsTrue (is_task (task_of r)) → atoms_of r ≡ numbered_atoms (task_of r) [] → IsTrue (list_all (is_symmetry (task_of r)) (exchanges_of r))
    → IsTrue (list_all (keeps_atoms (atoms_of r)) (exchanges_of r)) → (bits other : List Bool)
    → ArePackedAlike (task_of r) (atoms_of r) (exchanges_of r) bits other → ReachGoalsAlike (ground_system (task_of r) (atoms_of r)) bits other
alike_by r typed numbered symmetries kept =
    let task = task_of r in
    subst (λ (l : List Atom). IsTrue (list_all (keeps_atoms l) (exchanges_of r)) → (bits other : List Bool) → ArePackedAlike task l (exchanges_of r) bits other → ReachGoalsAlike (ground_system task l) bits other)
    (sym numbered) (goals_are_reached_alike task [] (exchanges_of r) typed (λ k d below. absurd (omega (arith, below))) symmetries) kept

pub classes_reach_alike : ClassesReachGoalsAlike
classes_reach_alike (space.Alone g) known bits other same = equal_reach_alike (search_space.system_of (space.Alone g)) bits other same
classes_reach_alike (space.Orbits r) known bits other same = alike_by r.now known.typed known.atoms known.symmetries known.kept bits other same
