-- Pairs of transition systems that simulate each other step by step, with their own names for states and actions.
use Rattle.std.specs.Prelude.{◌≡◌, ℕ, IsTrue, List, length, Some}
use Rattle.std.specs.List.{AllZip}
use Rattle.model.specs.Runs.{System, run, cost_of_all, CostsAtLeast, IsOptimal, IsUnsolvable}

-- A bisimulation: the initial states correspond; from corresponding states, each step of one system has a step of the other, by
-- corresponding actions, to corresponding states; corresponding states agree on the goal, and corresponding actions cost the
-- same.
pub record IsBisimulation {S A T B : Type 0} (t : System S A) (u : System T B) (same : S → T → Type 0) (names : A → B → Type 0) : Type 0 where
  pub initial : same t.initial u.initial
  pub forth : (s : S) (s' : T) (a : A) (next : S) → same s s' → t.step s a ≡ Some next
      → (b : B) × (next' : T) × names a b × (u.step s' b ≡ Some next') × same next next'
  pub back : (s : S) (s' : T) (b : B) (next' : T) → same s s' → u.step s' b ≡ Some next'
      → (a : A) × (next : S) × names a b × (t.step s a ≡ Some next) × same next next'
  pub goals : (s : S) (s' : T) → same s s' → t.meets_goal s ≡ u.meets_goal s'
  pub costs : (a : A) (b : B) → names a b → t.cost a ≡ u.cost b

-- A bisimulation equivalence (Milner, Communication and Concurrency, 1989): an equivalence of the states of one system such that
-- of two related states, each step of the one has a step of the other with the same cost to a related state, and both agree on
-- the goal.
pub record IsBisimulationEquivalence {S A : Type 0} (t : System S A) (same : S → S → Type 0) : Type 0 where
  pub itself : (s : S) → same s s
  pub turned : (s r : S) → same s r → same r s
  pub joined : (s r q : S) → same s r → same r q → same s q
  pub steps : (s r next : S) (a : A) → same s r → t.step s a ≡ Some next
      → (b : A) × (other : S) × (t.step r b ≡ Some other) × (t.cost b ≡ t.cost a) × same next other
  pub goals : (s r : S) → same s r → t.meets_goal s ≡ t.meets_goal r

-- each list of actions that leads from the first state to the goal has one from the second, of the same length and cost
abbrev pub ReachesGoalsOf : {S A : Type 0} → System S A → S → S → Type 0
ReachesGoalsOf {S} {A} t s r =
    (plan : List A) (end : S) → run t s plan ≡ Some end → IsTrue (t.meets_goal end)
    → (other : List A) × (last : S) × (run t r other ≡ Some last) × IsTrue (t.meets_goal last) × (length other ≡ length plan) × (cost_of_all t other ≡ cost_of_all t plan)

-- The same in both directions: the goal is reached at the same costs from both. This holds for states related by a bisimulation
-- equivalence.
pub record ReachGoalsAlike {S A : Type 0} (t : System S A) (s r : S) : Type 0 where
  pub forth : ReachesGoalsOf t s r
  pub back : ReachesGoalsOf t r s

-- Optimal lists of one system correspond to optimal lists of the other, action by action; lower bounds of one are lower bounds of
-- the other; and if one is unsolvable, so is the other.
pub record SolveAlike {S A T B : Type 0} (t : System S A) (u : System T B) (names : A → B → Type 0) : Type 0 where
  pub optimal : (plan : List A) → IsOptimal t plan → (plan' : List B) × AllZip names plan plan' × IsOptimal u plan'
  pub optimal_back : (plan' : List B) → IsOptimal u plan' → (plan : List A) × AllZip names plan plan' × IsOptimal t plan
  pub bound : (least : ℕ) → CostsAtLeast t least → CostsAtLeast u least
  pub bound_back : (least : ℕ) → CostsAtLeast u least → CostsAtLeast t least
  pub unsolvable : IsUnsolvable t → IsUnsolvable u
  pub unsolvable_back : IsUnsolvable u → IsUnsolvable t
