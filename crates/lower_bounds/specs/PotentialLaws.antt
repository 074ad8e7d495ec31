-- The purpose of fair potential functions: their values are lower bounds of the remaining cost. And of dead-fair ones: a state
-- with a value of at least 1 is a dead end.
use Rattle.std.specs.Prelude.{◌≡◌, ℕ, ◌+◌, ◌≤◌, Bool, true, false, IsTrue, List, length, All, Some}
use Rattle.model.specs.Task.{Atom, Task, Instance}
use Rattle.model.specs.Runs.{run, cost_of_all}
use Rattle.model.specs.Meaning.{State, cost_of, step, meets_goal, system_of}
use Rattle.model.specs.Fluents.{is_fluent, HasInitialStatics}
use Rattle.model.specs.NumberedAtoms.{are_distinct}
use Rattle.model.specs.Grounding.{ground_step, ground_system}
use Rattle.lower_bounds.specs.PotentialFunctions.{PotentialFunction, value, value_of_state, is_dead_by, is_dead_state}
use Rattle.lower_bounds.specs.FairPotentials.{AreFair, AreDeadFair}

-- numbered atoms are fluent, and none has two numbers
pub record AreNumberable (task : Task) (atoms : List Atom) : Type 0 where
  pub distinct : are_distinct atoms ≡ true
  pub fluent : All (λ (a : Atom). IsTrue (is_fluent task a.predicate)) atoms

-- From every state with the initial static atoms, every list of instances that leads to a goal state, of whatever length, costs
-- at least the value of the state.
abbrev pub IsLowerBoundOf : Task → List Atom → PotentialFunction → Type 0
IsLowerBoundOf task atoms p =
    (state end : State) (plan : List Instance) → HasInitialStatics task state → run (system_of task) state plan ≡ Some end → IsTrue (meets_goal task end)
    → value_of_state atoms p state ≤ cost_of_all (system_of task) plan

-- the value of such a state falls by no more than an instance's cost, and is 0 in goal states
pub record IsConsistent (task : Task) (atoms : List Atom) (p : PotentialFunction) : Type 0 where
  pub falls : (state next : State) (i : Instance) → HasInitialStatics task state → step task state i ≡ Some next
      → value_of_state atoms p state ≤ value_of_state atoms p next + cost_of task i
  pub ends : (state : State) → HasInitialStatics task state → IsTrue (meets_goal task state) → value_of_state atoms p state ≡ 0

-- the same for the ground task
abbrev pub IsGroundLowerBoundOf : Task → List Atom → PotentialFunction → Type 0
IsGroundLowerBoundOf task atoms p =
    (bits end : List Bool) (plan : List ℕ) → length bits ≡ length atoms → run (ground_system task atoms) bits plan ≡ Some end → IsTrue ((ground_system task atoms).meets_goal end)
    → value p bits ≤ cost_of_all (ground_system task atoms) plan

pub record IsGroundConsistent (task : Task) (atoms : List Atom) (p : PotentialFunction) : Type 0 where
  pub falls : (bits next : List Bool) (number : ℕ) → length bits ≡ length atoms → ground_step task atoms bits number ≡ Some next
      → value p bits ≤ value p next + (ground_system task atoms).cost number
  pub ends : (bits : List Bool) → length bits ≡ length atoms → IsTrue ((ground_system task atoms).meets_goal bits) → value p bits ≡ 0

-- The properties of fair potential functions.
pub record AreLowerBounds (task : Task) (atoms : List Atom) (p : PotentialFunction) : Type 0 where
  pub bound : IsLowerBoundOf task atoms p
  pub consistent : IsConsistent task atoms p
  pub ground_bound : IsGroundLowerBoundOf task atoms p
  pub ground_consistent : IsGroundConsistent task atoms p

abbrev pub FairOnesAreLowerBounds : Type 0
FairOnesAreLowerBounds = (task : Task) (atoms : List Atom) (p : PotentialFunction) → AreNumberable task atoms → AreFair task atoms p → AreLowerBounds task atoms p

-- ---- dead ends

-- No list of instances, of whatever length, leads from a state with the initial static atoms that is reported as a dead end to a
-- goal state.
abbrev pub DetectsDeadEndsOf : Task → List Atom → PotentialFunction → Type 0
DetectsDeadEndsOf task atoms p =
    (state end : State) (plan : List Instance) → HasInitialStatics task state → IsTrue (is_dead_state atoms p state) → run (system_of task) state plan ≡ Some end
    → meets_goal task end ≡ false

-- the value of such a state never falls, and is 0 in goal states
pub record NeverFalls (task : Task) (atoms : List Atom) (p : PotentialFunction) : Type 0 where
  pub never_falls : (state next : State) (i : Instance) → HasInitialStatics task state → step task state i ≡ Some next
      → value_of_state atoms p state ≤ value_of_state atoms p next
  pub ends : (state : State) → HasInitialStatics task state → IsTrue (meets_goal task state) → value_of_state atoms p state ≡ 0

-- the same for the ground task
abbrev pub DetectsGroundDeadEndsOf : Task → List Atom → PotentialFunction → Type 0
DetectsGroundDeadEndsOf task atoms p =
    (bits end : List Bool) (plan : List ℕ) → length bits ≡ length atoms → IsTrue (is_dead_by p bits) → run (ground_system task atoms) bits plan ≡ Some end
    → (ground_system task atoms).meets_goal end ≡ false

pub record NeverFallsInGround (task : Task) (atoms : List Atom) (p : PotentialFunction) : Type 0 where
  pub never_falls : (bits next : List Bool) (number : ℕ) → length bits ≡ length atoms → ground_step task atoms bits number ≡ Some next
      → value p bits ≤ value p next
  pub ends : (bits : List Bool) → length bits ≡ length atoms → IsTrue ((ground_system task atoms).meets_goal bits) → value p bits ≡ 0

-- a packed state reported as a dead end leads only to such states, and is not a goal state
pub record StaysDeadInGround (task : Task) (atoms : List Atom) (p : PotentialFunction) : Type 0 where
  pub stays : (bits next : List Bool) (number : ℕ) → length bits ≡ length atoms → IsTrue (is_dead_by p bits) → ground_step task atoms bits number ≡ Some next
      → IsTrue (is_dead_by p next)
  pub no_goal : (bits : List Bool) → length bits ≡ length atoms → IsTrue (is_dead_by p bits) → (ground_system task atoms).meets_goal bits ≡ false

-- The properties of dead-fair potential functions.
pub record DetectDeadEnds (task : Task) (atoms : List Atom) (p : PotentialFunction) : Type 0 where
  pub dead_ends : DetectsDeadEndsOf task atoms p
  pub consistent : NeverFalls task atoms p
  pub ground_dead_ends : DetectsGroundDeadEndsOf task atoms p
  pub ground_consistent : NeverFallsInGround task atoms p
  pub ground_stays : StaysDeadInGround task atoms p

abbrev pub DeadFairOnesDetectDeadEnds : Type 0
DeadFairOnesDetectDeadEnds = (task : Task) (atoms : List Atom) (p : PotentialFunction) → AreNumberable task atoms → AreDeadFair task atoms p → DetectDeadEnds task atoms p
