-- What is wrong with a certificate, or with the plan given with it, when the checker refuses it.
use Rattle.std.specs.Prelude.{◌≡◌, ℕ, ◌+◌, ◌<◌, ◌≤◌, ◌⊎◌, ◌&&◌, false, IsTrue, List, length, Contains, slice_get, Option, None, Some, IsSome, MatchOption}
use Rattle.model.specs.Task.{Atom, Task, Instance}
use Rattle.model.specs.WellTyped.{is_atom}
use Rattle.model.specs.Runs.{cost_of_all, Solves}
use Rattle.model.specs.Meaning.{State, cost_of, meets_goal, system_of}
use Rattle.model.specs.Limits.{max_numbered_atoms}
use Rattle.model.specs.StaticallyFalse.{kept_instances}
use Rattle.model.specs.NumberedAtoms.{numbered_atoms}
use Rattle.model.specs.Grounding.{exceeded_limit}
use Rattle.model.specs.Claims.{Claim, bound, none, Allows, expanded, cut, Line, IsListedWithin}
use Rattle.lower_bounds.specs.PotentialFunctions.{PotentialFunction}
use Rattle.lower_bounds.specs.FairPotentials.{IsFairAt, IsFairAtGoals}
use Rattle.lower_bounds.specs.TableFunctions.{TableFunction, functions_of, dead_ends_of}
use Rattle.lower_bounds.specs.FairTables as fair_tables
use Rattle.lower_bounds.specs.FairTables.{is_asked}
use Rattle.model.specs.Fluents.{is_fluent}
use Rattle.symmetries_definitions.specs.Exchanges.{Exchange}
use Rattle.certificate_definitions.specs.Certificates.{Version, one, two, three, four, landmark_function, StateLine, Certificate, potentials_of, several_of, rows_of, state_of_line, lines_of, is_symmetry_for, AreAlikeFor, value_by, is_dead_end_by}
use Rattle.certificate_definitions.specs.Evidence as evidence
use Rattle.certificate_definitions.specs.Evidence.{Basis, landmark}
use Rattle.lower_bounds.specs.LandmarkFunctions.{LandmarkFunction}
use Rattle.lower_bounds.specs.LandmarkLines.{functions_of as landmark_functions}
use Rattle.lower_bounds.specs.FairLandmarks.{IsFair, IsDeadFair}

-- the reasons, each with the number that is reported
pub data Reason : Type 0 where
  not_fluent : Reason  -- 43
  repeated : Reason  -- 44
  no_initial : Reason  -- 45
  unfair : Reason  -- 46
  unfair_goal : Reason  -- 47
  goal_open : Reason  -- 48
  successor_missing : Reason  -- 49
  successor_dearer : Reason  -- 50
  cut_weak : Reason  -- 51
  cut_not_allowed : Reason  -- 52
  plan_invalid : Reason  -- 53
  plan_dearer : Reason  -- 54
  limit : Reason  -- 55
  dead_unfair : Reason  -- 56
  dead_unfair_goal : Reason  -- 57
  not_dead : Reason  -- 58
  not_symmetry : Reason  -- 59
  value_unfair : Reason  -- 62
  value_not_dead : Reason  -- 63

-- The lines of a certificate's text are counted from 1: first its version, its claim and its constants, then its exchanges and
-- its atoms, one per line, then its tables, each with its rows, then the zones and the values of its landmarks, and then its states.
abbrev pub exchange_line : ℕ → ℕ
exchange_line place = 4 + place

abbrev pub atom_line : Certificate → ℕ → ℕ
atom_line c place = 4 + length c.exchanges + place

abbrev pub landmark_line : Certificate → ℕ → ℕ
landmark_line c place = 4 + length c.exchanges + length c.atoms + (length c.tables + length (rows_of c.tables)) + length c.landmarks.zones + place

abbrev pub state_line : Certificate → ℕ → ℕ
state_line c place = 4 + length c.exchanges + length c.atoms + (length c.tables + length (rows_of c.tables)) + (length c.landmarks.zones + length c.landmarks.values) + place

-- this line has this exchange
abbrev pub HasExchange : Certificate → ℕ → Exchange → Type 0
HasExchange c line e = (place : ℕ) × (line ≡ exchange_line place) × (slice_get c.exchanges place ≡ Some e)

-- this line has this atom
abbrev pub HasAtom : Certificate → ℕ → Atom → Type 0
HasAtom c line a = (place : ℕ) × (line ≡ atom_line c place) × (slice_get c.atoms place ≡ Some a)

-- this line lists this state
abbrev pub HasState : Task → Certificate → ℕ → Line State → Type 0
HasState task c line l = (place : ℕ) × (line ≡ state_line c place) × (slice_get (lines_of task c) place ≡ Some l)

-- this line is this one, which says what its role rests on
abbrev pub HasStateLine : Certificate → ℕ → StateLine → Type 0
HasStateLine c line l = (place : ℕ) × (line ≡ state_line c place) × (slice_get c.lines place ≡ Some l)

-- the state is listed, at any cost
abbrev pub IsListed : {S : Type 0} → (S → S → Type 0) → List (Line S) → S → Type 0
IsListed {S} alike lines s = (line : Line S) × Contains lines line × alike line.state s

-- the atom, or the state, in this line occurs in an earlier line
abbrev pub IsRepeatedAtom : Certificate → ℕ → Type 0
IsRepeatedAtom c line = (a : Atom) × (before : ℕ) × (before < line) × HasAtom c before a × HasAtom c line a

abbrev pub IsRepeatedState : Task → Certificate → ℕ → Type 0
IsRepeatedState task c line =
    (earlier l : Line State) × (before : ℕ) × (before < line) × HasState task c before earlier × HasState task c line l × (earlier.state ≡ l.state)

-- this line lists an expanded state, from which this instance leads to that state
abbrev pub LeadsFrom : Task → Certificate → ℕ → Line State → Instance → State → Type 0
LeadsFrom task c line l i next = HasState task c line l × (l.mark ≡ expanded) × ((system_of task).step l.state i ≡ Some next)

-- ---- values that are not fair

-- the kept instance may lose more by the potential function than it is allowed to, if the certificate's atoms have the first
-- numbers
abbrev pub MayLose : (allowance : ℕ) → Task → Certificate → PotentialFunction → Instance → Type 0
MayLose allowance task c p i = Contains (kept_instances task) i × ¬ IsFairAt allowance task (numbered_atoms task c.atoms) p.weights i

-- the same for the table function, if the instance is not shut out
abbrev pub MayLoseByTables : (allowance : ℕ) → Task → Certificate → TableFunction → Instance → Type 0
MayLoseByTables allowance task c h i =
    Contains (kept_instances task) i × IsTrue (is_asked task (numbered_atoms task c.atoms) c.tables i) × ¬ fair_tables.IsFairAt allowance task (numbered_atoms task c.atoms) h i

-- the same for the value at this index, from 0: versions 1 and 2 have one
abbrev pub IsUnfairIn : Version → Task → Certificate → ℕ → Instance → Type 0
IsUnfairIn one task c place i = (place ≡ 0) × MayLose (cost_of task i) task c (potentials_of c) i
IsUnfairIn two task c place i = (place ≡ 0) × MayLose (cost_of task i) task c (potentials_of c) i
IsUnfairIn three task c place i = (h : TableFunction) × (slice_get (functions_of (several_of c)) place ≡ Some h) × MayLoseByTables (cost_of task i) task c h i
IsUnfairIn four task c place i = (h : TableFunction) × (slice_get (functions_of (several_of c)) place ≡ Some h) × MayLoseByTables (cost_of task i) task c h i

-- its value in goal states may exceed 0
abbrev pub IsUnfairAtGoalsIn : Version → Task → Certificate → ℕ → Type 0
IsUnfairAtGoalsIn one task c place = (place ≡ 0) × ¬ IsFairAtGoals task (numbered_atoms task c.atoms) (potentials_of c)
IsUnfairAtGoalsIn two task c place = (place ≡ 0) × ¬ IsFairAtGoals task (numbered_atoms task c.atoms) (potentials_of c)
IsUnfairAtGoalsIn three task c place = (h : TableFunction) × (slice_get (functions_of (several_of c)) place ≡ Some h) × ¬ fair_tables.IsFairAtGoals task (numbered_atoms task c.atoms) h
IsUnfairAtGoalsIn four task c place = (h : TableFunction) × (slice_get (functions_of (several_of c)) place ≡ Some h) × ¬ fair_tables.IsFairAtGoals task (numbered_atoms task c.atoms) h

-- the same for the function for dead ends, with allowance 0
abbrev pub IsDeadUnfairIn : Version → Task → Certificate → Instance → Type 0
IsDeadUnfairIn one task c i = MayLose 0 task c c.dead_ends i
IsDeadUnfairIn two task c i = MayLose 0 task c c.dead_ends i
IsDeadUnfairIn three task c i = MayLoseByTables 0 task c (dead_ends_of (several_of c)) i
IsDeadUnfairIn four task c i = MayLoseByTables 0 task c (dead_ends_of (several_of c)) i

abbrev pub IsDeadUnfairAtGoalsIn : Version → Task → Certificate → Type 0
IsDeadUnfairAtGoalsIn one task c = ¬ IsFairAtGoals task (numbered_atoms task c.atoms) c.dead_ends
IsDeadUnfairAtGoalsIn two task c = ¬ IsFairAtGoals task (numbered_atoms task c.atoms) c.dead_ends
IsDeadUnfairAtGoalsIn three task c = ¬ fair_tables.IsFairAtGoals task (numbered_atoms task c.atoms) (dead_ends_of (several_of c))
IsDeadUnfairAtGoalsIn four task c = ¬ fair_tables.IsFairAtGoals task (numbered_atoms task c.atoms) (dead_ends_of (several_of c))

-- ---- faults

-- The faults of a line of the certificate's text, or of one of its values, given by the value's index, from 0; the function for
-- dead ends comes after them.
abbrev pub IsWrongAt : Task → Certificate → Reason → ℕ → Type 0
-- its atom is not well-typed, or its predicate is static
IsWrongAt task c not_fluent line = (a : Atom) × HasAtom c line a × ((is_atom task a && is_fluent task a.predicate) ≡ false)
-- its exchange is not a symmetry of the task, or maps a numbered atom to one without a number
IsWrongAt task c not_symmetry line = (e : Exchange) × HasExchange c line e × (is_symmetry_for task c e ≡ false)
-- its atom, or its state, occurs in an earlier line
IsWrongAt task c repeated line = IsRepeatedAtom c line ⊎ IsRepeatedState task c line
-- its expanded state satisfies the goal, at a cost that the claim does not allow
IsWrongAt task c goal_open line = (l : Line State) × HasState task c line l × (l.mark ≡ expanded) × IsTrue (meets_goal task l.state) × ¬ Allows c.claim l.cost
-- an instance leads from its expanded state to a state whose class is not listed
IsWrongAt task c successor_missing line =
    (l : Line State) × (i : Instance) × (next : State) × LeadsFrom task c line l i next × ¬ IsListed (AreAlikeFor task c) (lines_of task c) next
-- an instance leads from its expanded state to a state whose class is listed, but not at a cost as low as the expanded state's plus the
-- instance's
IsWrongAt task c successor_dearer line =
    (l : Line State) × (i : Instance) × (next : State) × LeadsFrom task c line l i next × IsListed (AreAlikeFor task c) (lines_of task c) next
    × ¬ IsListedWithin (AreAlikeFor task c) (lines_of task c) next (l.cost + (system_of task).cost i)
-- its cut's bound exceeds the state's value by the line's basis, or its cost plus the bound is below the claim
IsWrongAt task c cut_weak line =
    (l : StateLine) × (basis : Basis) × (rest : ℕ) × HasStateLine c line l × (l.mark ≡ evidence.cut basis rest)
    × ((value_by task c basis (state_of_line task c l) < rest) ⊎ ¬ Allows c.claim (l.cost + rest))
-- it is a cut although the claim is that no list solves the task
IsWrongAt task c cut_not_allowed line = (l : Line State) × (rest : ℕ) × HasState task c line l × (l.mark ≡ cut rest) × (c.claim ≡ none)
-- it is listed as a dead end, but the line's basis does not show that it is one
IsWrongAt task c not_dead line =
    (l : StateLine) × (basis : Basis) × HasStateLine c line l × (l.mark ≡ evidence.dead basis) × (is_dead_end_by task c basis (state_of_line task c l) ≡ false)
-- a kept instance may lose more than its cost by the value at this index
IsWrongAt task c unfair place = (i : Instance) × IsUnfairIn c.version task c place i
-- the value in goal states may exceed 0
IsWrongAt task c unfair_goal place = IsUnfairAtGoalsIn c.version task c place
-- a kept instance may make the function for dead ends fall
IsWrongAt task c dead_unfair place = (place ≡ length c.values) × (i : Instance) × IsDeadUnfairIn c.version task c i
-- that function's value in goal states may exceed 0
IsWrongAt task c dead_unfair_goal place = (place ≡ length c.values) × IsDeadUnfairAtGoalsIn c.version task c
-- its landmark value is not fair
IsWrongAt task c value_unfair line =
    (place : ℕ) × (h : LandmarkFunction) × (line ≡ landmark_line c place) × (slice_get (landmark_functions c.tables c.landmarks) place ≡ Some h) × ¬ IsFair task (numbered_atoms task c.atoms) h
-- it is a dead end that rests on a landmark value that is not dead-fair
IsWrongAt task c value_not_dead line =
    (l : StateLine) × (number : ℕ) × HasStateLine c line l × (l.mark ≡ evidence.dead (landmark number)) × ¬ IsDeadFair task (numbered_atoms task c.atoms) (landmark_function c number)
IsWrongAt task c _ line = ⊥

-- The faults that concern neither a line nor a value, but the whole certificate, the plan, if one is given, or the ground task in
-- which the certificate's atoms have the first numbers, and of which at most `most` instances may be kept.
abbrev pub IsWrong : Task → Certificate → Option (List Instance) → ℕ → Reason → Type 0
-- no state in the class of the initial state is listed at cost 0
IsWrong task c plan most no_initial = ¬ IsListedWithin (AreAlikeFor task c) (lines_of task c) (system_of task).initial 0
-- the plan does not solve the task
IsWrong task c plan most plan_invalid = MatchOption plan ⊥ (λ p. ¬ Solves (system_of task) p)
-- the plan solves the task, but costs more than the claim
IsWrong task c plan most plan_dearer =
    MatchOption plan ⊥ (λ p. (least : ℕ) × (c.claim ≡ bound least) × Solves (system_of task) p × (least < cost_of_all (system_of task) p))
-- too many instances are kept, or too many atoms numbered
IsWrong task c plan most limit = IsSome (exceeded_limit most max_numbered_atoms task c.atoms)
IsWrong task c plan most _ = ⊥

-- The checker's order: it reads the lines, grounds the task, tests whether the exchanges are symmetries, line by line, whether
-- the values are fair, one after another, and the function for dead ends dead-fair, then whether the landmark values are fair, and those
-- that dead ends rest on dead-fair, looks for the initial state, checks the state
-- lines one by one, and compares the plan with the claim.
abbrev pub stage_of : Reason → ℕ
stage_of not_fluent = 0
stage_of repeated = 0
stage_of cut_not_allowed = 0
stage_of limit = 1
stage_of not_symmetry = 2
stage_of unfair = 3
stage_of unfair_goal = 3
stage_of dead_unfair = 3
stage_of dead_unfair_goal = 3
stage_of value_unfair = 4
stage_of value_not_dead = 5
stage_of no_initial = 6
stage_of goal_open = 7
stage_of successor_missing = 7
stage_of successor_dearer = 7
stage_of cut_weak = 7
stage_of not_dead = 7
stage_of plan_invalid = 8
stage_of plan_dearer = 8

-- within a line this order; of a line's successors, the first wrong one is reported
abbrev pub rank_of : Reason → ℕ
rank_of repeated = 1
rank_of cut_not_allowed = 2
rank_of unfair_goal = 1
rank_of dead_unfair = 2
rank_of dead_unfair_goal = 3
rank_of successor_missing = 1
rank_of successor_dearer = 1
rank_of plan_dearer = 1
rank_of _ = 0

-- the order of faults, by lines or by the indices of values; a fault of neither counts as in line 0
abbrev pub ComesBefore : Reason → ℕ → Reason → ℕ → Type 0
ComesBefore earlier line later other =
    (stage_of earlier < stage_of later) ⊎ ((stage_of earlier ≡ stage_of later) × ((line < other) ⊎ ((line ≡ other) × (rank_of earlier < rank_of later))))

-- no fault comes before
abbrev pub IsFirst : Task → Certificate → Option (List Instance) → ℕ → Reason → ℕ → Type 0
IsFirst task c plan most reason line =
    (earlier : Reason) (before : ℕ) → ComesBefore earlier before reason line → ¬ (IsWrongAt task c earlier before ⊎ IsWrong task c plan most earlier)

-- no plan is given, or one that solves the task and costs no more than the claim
abbrev pub IsPlanWithin : Task → Claim → Option (List Instance) → Type 0
IsPlanWithin task claim None = Unit {0}
IsPlanWithin task (bound least) (Some p) = Solves (system_of task) p × (cost_of_all (system_of task) p ≤ least)
IsPlanWithin task none (Some p) = ⊥
