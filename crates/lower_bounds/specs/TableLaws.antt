-- The purpose of fair values of every kind: they, and the maximum of several, are lower bounds of the remaining cost. And of
-- dead-fair ones: a state with a value of at least 1 is a dead end. Everything is stated for a value of packed states, however it
-- is computed; a kind of values has its own conditions on instances and goals, and a law that they make it fair in this sense.
use Rattle.std.specs.Prelude.{◌≡◌, ℕ, ◌+◌, ◌≤◌, max, nat_le, nat_lt, Bool, true, false, not, ◌&&◌, ◌||◌, IsTrue, List, [], ◌∷◌, Contains, All, length, filter, sum_by, Some}
use Rattle.std.specs.List.{list_all}
use Rattle.model.specs.Task.{Atom, Task, Instance}
use Rattle.model.specs.Runs.{run, cost_of_all}
use Rattle.model.specs.Meaning.{State, cost_of, step, meets_goal, system_of}
use Rattle.model.specs.Fluents.{HasInitialStatics}
use Rattle.model.specs.StaticallyFalse.{kept_instances}
use Rattle.model.specs.NumberedAtoms.{occurs_in, touched_by, numbered_atoms, HasNumberedFluents}
use Rattle.model.specs.NumberedLiterals.{NumberedChange}
use Rattle.model.specs.Grounding.{state_of_bits, bits_of_state, ground_step, ground_system}
use Rattle.lower_bounds.specs.PotentialFunctions as potential
use Rattle.lower_bounds.specs.PotentialFunctions.{PotentialFunction}
use Rattle.lower_bounds.specs.FairPotentials as fair_potentials
use Rattle.lower_bounds.specs.FairPotentials.{makes, nothing}
use Rattle.lower_bounds.specs.PotentialLaws.{AreNumberable}
use Rattle.lower_bounds.specs.TableFunctions.{Table, is_among, TableFunction, value, is_dead_by, greatest_value, SeveralValues, functions_of, dead_ends_of, in_state}
use Rattle.lower_bounds.specs.FairTables.{afters, is_asked, AreFairAt, IsFair, IsDeadFair, AreFair, each_instance, IsFirstUnfairAt}

-- ---- numbering

-- numbered atoms are fluent, none has two numbers, and every atom changed by a counting change of a kept instance has one
pub record AreAllNumbered (task : Task) (atoms : List Atom) : Type 0 where
  pub numberable : AreNumberable task atoms
  pub touched : (i : Instance) (a : Atom) → Contains (kept_instances task) i → IsTrue (occurs_in (touched_by task i) a) → IsTrue (occurs_in atoms a)

-- the scopes are over this many atoms
abbrev pub are_over : ℕ → List Table → Bool
are_over count tables = list_all (λ (t : Table). list_all (λ number. nat_lt number count) t.scope) tables

-- the weights and the scopes are over this many atoms
pub record IsOver (count : ℕ) (h : TableFunction) : Type 0 where
  pub weights : length h.potentials.weights ≤ count
  pub scopes : IsTrue (are_over count h.tables)

-- ---- fair at an allowance

-- the state is like every reachable one: its static atoms are the initial ones, and its fluent atoms are numbered
pub record IsOfAtoms (task : Task) (atoms : List Atom) (state : State) : Type 0 where
  pub statics : HasInitialStatics task state
  pub numbered : HasNumberedFluents task atoms state

-- A value is fair at an allowance if it falls by no more than an instance is allowed, wherever that is applied, and is 0 in goal
-- states. It depends on the bits of the numbered atoms alone. At the costs this is a heuristic that is consistent and goal-aware.
pub record IsFairValueAt (allowance : Instance → ℕ) (task : Task) (atoms : List Atom) (value : List Bool → ℕ) : Type 0 where
  pub falls : (state next : State) (i : Instance) → IsOfAtoms task atoms state → step task state i ≡ Some next
      → value (bits_of_state atoms state) ≤ value (bits_of_state atoms next) + allowance i
  pub ends : (state : State) → IsTrue (meets_goal task state) → value (bits_of_state atoms state) ≡ 0
  pub by_numbered : (bits : List Bool) → value (bits_of_state atoms (state_of_bits task atoms bits)) ≡ value bits

-- the maximum of several values
abbrev pub greatest_of : List (List Bool → ℕ) → List Bool → ℕ
greatest_of [] bits = 0
greatest_of (value ∷ others) bits = max (value bits) (greatest_of others bits)

-- ---- lower bounds

-- From every state with the initial static atoms, every list of instances that leads to a goal state, of whatever length, costs
-- at least the value of the state.
abbrev pub IsLowerBoundOf : Task → List Atom → (List Bool → ℕ) → Type 0
IsLowerBoundOf task atoms value =
    (state end : State) (plan : List Instance) → HasInitialStatics task state → run (system_of task) state plan ≡ Some end → IsTrue (meets_goal task end)
    → in_state task atoms value state ≤ cost_of_all (system_of task) plan

-- the value of such a state falls by no more than an instance's cost, and is 0 in goal states
pub record IsConsistent (task : Task) (atoms : List Atom) (value : List Bool → ℕ) : Type 0 where
  pub falls : (state next : State) (i : Instance) → HasInitialStatics task state → step task state i ≡ Some next
      → in_state task atoms value state ≤ in_state task atoms value next + cost_of task i
  pub ends : (state : State) → HasInitialStatics task state → IsTrue (meets_goal task state) → in_state task atoms value state ≡ 0

-- the same for the ground task
abbrev pub IsGroundLowerBoundOf : Task → List Atom → (List Bool → ℕ) → Type 0
IsGroundLowerBoundOf task atoms value =
    (bits end : List Bool) (plan : List ℕ) → run (ground_system task atoms) bits plan ≡ Some end → IsTrue ((ground_system task atoms).meets_goal end)
    → value bits ≤ cost_of_all (ground_system task atoms) plan

-- What a search requires of a heuristic, for all bits of a packed state.
pub record IsGroundConsistent (task : Task) (atoms : List Atom) (value : List Bool → ℕ) : Type 0 where
  pub zero_at_goals : (bits : List Bool) → IsTrue ((ground_system task atoms).meets_goal bits) → value bits ≡ 0
  pub falls_by_no_more : (bits next : List Bool) (number : ℕ) → ground_step task atoms bits number ≡ Some next
      → value bits ≤ (ground_system task atoms).cost number + value next

-- The properties of fair table functions.
pub record AreLowerBounds (task : Task) (atoms : List Atom) (value : List Bool → ℕ) : Type 0 where
  pub bound : IsLowerBoundOf task atoms value
  pub consistent : IsConsistent task atoms value
  pub ground_bound : IsGroundLowerBoundOf task atoms value
  pub ground_consistent : IsGroundConsistent task atoms value

-- fair table functions are one kind of fair values
abbrev pub TablesAreFairValues : Type 0
TablesAreFairValues =
    (allowance : Instance → ℕ) (task : Task) (atoms : List Atom) (h : TableFunction) → AreNumberable task atoms → IsOver (length atoms) h
    → AreFairAt (is_asked task atoms h.tables) allowance task atoms h → IsFairValueAt allowance task atoms (value h)

abbrev pub FairOnesAreLowerBounds : Type 0
FairOnesAreLowerBounds =
    (task : Task) (atoms : List Atom) (h : TableFunction) → AreAllNumbered task atoms → IsOver (length atoms) h → IsFair task atoms h → AreLowerBounds task atoms (value h)

-- and so is the maximum of several fair ones
abbrev pub GreatestOfFairOnesIsLowerBound : Type 0
GreatestOfFairOnesIsLowerBound =
    (task : Task) (atoms : List Atom) (functions : List TableFunction) → AreAllNumbered task atoms → All (IsOver (length atoms)) functions → All (IsFair task atoms) functions
    → AreLowerBounds task atoms (greatest_value functions)

-- ---- dead ends

-- the value of the state is at least 1
abbrev pub is_dead : Task → List Atom → (List Bool → ℕ) → State → Bool
is_dead task atoms value state = nat_le 1 (in_state task atoms value state)

-- No list of instances, of whatever length, leads from a state with the initial static atoms and a value of at least 1 to a goal
-- state.
abbrev pub HasNoPlan : Task → List Atom → (List Bool → ℕ) → Type 0
HasNoPlan task atoms value =
    (state end : State) (plan : List Instance) → HasInitialStatics task state → IsTrue (is_dead task atoms value state) → run (system_of task) state plan ≡ Some end
    → meets_goal task end ≡ false

-- such a state leads only to such states, and is not a goal state
pub record StaysDead (task : Task) (atoms : List Atom) (value : List Bool → ℕ) : Type 0 where
  pub stays : (state next : State) (i : Instance) → HasInitialStatics task state → IsTrue (is_dead task atoms value state) → step task state i ≡ Some next
      → IsTrue (is_dead task atoms value next)
  pub no_goal : (state : State) → HasInitialStatics task state → IsTrue (is_dead task atoms value state) → meets_goal task state ≡ false

-- the same for the ground task
abbrev pub HasNoGroundPlan : Task → List Atom → (List Bool → ℕ) → Type 0
HasNoGroundPlan task atoms value =
    (bits end : List Bool) (plan : List ℕ) → IsTrue (nat_le 1 (value bits)) → run (ground_system task atoms) bits plan ≡ Some end
    → (ground_system task atoms).meets_goal end ≡ false

-- What a search requires of a dead-end test, for all bits of a packed state.
pub record StaysDeadInGround (task : Task) (atoms : List Atom) (is_dead : List Bool → Bool) : Type 0 where
  pub no_goal : (bits : List Bool) → IsTrue (is_dead bits) → (ground_system task atoms).meets_goal bits ≡ false
  pub stays_dead : (bits next : List Bool) (number : ℕ) → IsTrue (is_dead bits) → ground_step task atoms bits number ≡ Some next → IsTrue (is_dead next)

-- The properties of dead-fair table functions.
pub record AreDeadEnds (task : Task) (atoms : List Atom) (value : List Bool → ℕ) : Type 0 where
  pub no_plan : HasNoPlan task atoms value
  pub stays : StaysDead task atoms value
  pub no_ground_plan : HasNoGroundPlan task atoms value
  pub ground_stays : StaysDeadInGround task atoms (λ bits. nat_le 1 (value bits))

-- What follows from fairness, of whatever kind the value is.
pub record FairValuesAreBounds (task : Task) (atoms : List Atom) : Type 0 where
  -- the instances of a list that leads to a goal state are allowed at least the value
  pub at_an_allowance : (allowance : Instance → ℕ) (value : List Bool → ℕ) → IsFairValueAt allowance task atoms value
      → (state end : State) (plan : List Instance) → HasInitialStatics task state → run (system_of task) state plan ≡ Some end → IsTrue (meets_goal task end)
      → in_state task atoms value state ≤ sum_by allowance plan
  -- at the costs it is a lower bound, and at the allowance 0 it detects dead ends
  pub at_costs : (value : List Bool → ℕ) → IsFairValueAt (cost_of task) task atoms value → AreLowerBounds task atoms value
  pub at_nothing : (value : List Bool → ℕ) → IsFairValueAt nothing task atoms value → AreDeadEnds task atoms value
  -- the maximum of fair values is fair, and none of them exceeds it
  pub greatest : (allowance : Instance → ℕ) (values : List (List Bool → ℕ)) → ((value : List Bool → ℕ) → Contains values value → IsFairValueAt allowance task atoms value)
      → IsFairValueAt allowance task atoms (greatest_of values)
  pub each_is_less : (values : List (List Bool → ℕ)) (value : List Bool → ℕ) (bits : List Bool) → Contains values value → value bits ≤ greatest_of values bits

abbrev pub FairnessIsEnough : Type 0
FairnessIsEnough = (task : Task) (atoms : List Atom) → AreAllNumbered task atoms → FairValuesAreBounds task atoms

abbrev pub DeadFairOnesReportDeadEnds : Type 0
DeadFairOnesReportDeadEnds =
    (task : Task) (atoms : List Atom) (h : TableFunction) → AreAllNumbered task atoms → IsOver (length atoms) h → IsDeadFair task atoms h → AreDeadEnds task atoms (value h)

-- ---- a certificate's values

-- the weights and the scopes of several values are over this many atoms
pub record AreOver (count : ℕ) (s : SeveralValues) : Type 0 where
  pub values : All (λ (p : PotentialFunction). length p.weights ≤ count) s.values
  pub dead_ends : length s.dead_ends.weights ≤ count
  pub scopes : IsTrue (are_over count s.tables)

-- both properties of several values
pub record AreSound (task : Task) (atoms : List Atom) (s : SeveralValues) : Type 0 where
  pub lower_bounds : AreLowerBounds task atoms (greatest_value (functions_of s))
  pub dead_ends : AreDeadEnds task atoms (value (dead_ends_of s))

abbrev pub FairValuesAreSound : Type 0
FairValuesAreSound =
    (task : Task) (atoms : List Atom) (s : SeveralValues) → AreAllNumbered task atoms → AreOver (length atoms) s → AreFair task atoms s → AreSound task atoms s

-- ---- without tables

abbrev pub without_tables : PotentialFunction → TableFunction
without_tables p = record { potentials = p; tables = []; place = 0 }

-- A potential function is the table function without tables: it gives the same values; and if each kept instance must be fair,
-- the same conditions make it fair, and the same instance is the first that is not.
pub record IsSpecialCase (task : Task) (atoms : List Atom) (p : PotentialFunction) : Type 0 where
  pub values : (bits : List Bool) → value (without_tables p) bits ≡ potential.value p bits
  pub dead_ends : (bits : List Bool) → is_dead_by (without_tables p) bits ≡ potential.is_dead_by p bits
  pub fair : (allowance : Instance → ℕ) (asked : Instance → Bool) → fair_potentials.AreFairAt allowance task atoms p → AreFairAt asked allowance task atoms (without_tables p)
  pub only_fair : (allowance : Instance → ℕ) (asked : Instance → Bool) → All (λ (i : Instance). IsTrue (asked i)) (kept_instances task)
      → AreFairAt asked allowance task atoms (without_tables p) → fair_potentials.AreFairAt allowance task atoms p
  pub first_unfair : (allowance : Instance → ℕ) (number : ℕ)
      → fair_potentials.IsFirstUnfairAt allowance task atoms p number → IsFirstUnfairAt each_instance allowance task atoms (without_tables p) number
  pub only_first_unfair : (allowance : Instance → ℕ) (number : ℕ)
      → IsFirstUnfairAt each_instance allowance task atoms (without_tables p) number → fair_potentials.IsFirstUnfairAt allowance task atoms p number

abbrev pub PotentialsAreTableFunctions : Type 0
PotentialsAreTableFunctions = (task : Task) (atoms : List Atom) (p : PotentialFunction) → IsSpecialCase task atoms p

-- fair potential functions are another kind of fair values
abbrev pub PotentialsAreFairValues : Type 0
PotentialsAreFairValues =
    (allowance : Instance → ℕ) (task : Task) (atoms : List Atom) (p : PotentialFunction) → AreNumberable task atoms → length p.weights ≤ length atoms
    → fair_potentials.AreFairAt allowance task atoms p → IsFairValueAt allowance task atoms (potential.value p)

-- ---- the ground task's atoms

-- a ground task numbers all atoms that must be numbered
abbrev pub GroundAtomsAreAllNumbered : Type 0
GroundAtomsAreAllNumbered = (task : Task) (more : List Atom) → AreNumberable task (numbered_atoms task more) → AreAllNumbered task (numbered_atoms task more)

-- ---- a single successor row

-- the result of unconditional changes: the atoms that they add, and those that were true and are not deleted
abbrev pub after_certain : List NumberedChange → List ℕ → List ℕ → List ℕ
after_certain changes scope before = filter (λ number. makes changes true true number || (is_among before number && not (makes changes true false number))) scope

-- if no change under a `when` affects an atom of the scope, each row has exactly one successor
abbrev pub CertainChangesHaveOneAfter : Type 0
CertainChangesHaveOneAfter =
    (changes : List NumberedChange) (scope before : List ℕ) → ((number : ℕ) (value : Bool) → IsTrue (is_among scope number) → makes changes false value number ≡ false)
    → afters changes scope before ≡ after_certain changes scope before ∷ []
