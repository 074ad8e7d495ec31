-- Plans over any transition system: the state that a list of actions leads to, its cost, and optimality. A planning task is one
-- such system (`Meaning.system_of`).
use Rattle.std.specs.Prelude.{◌≡◌, ℕ, ◌-◌, ◌≤◌, Bool, false, IsTrue, List, [], ◌∷◌, take, slice_get, Option, None, Some, sum_by}
use Rattle.std.specs.Option.{option_and_then}

-- states of type S and actions of type A
pub record System (S A : Type 0) : Type 0 where
  pub initial : S
  -- the successor state; None if the action is not applicable
  pub step : S → A → Option S
  pub cost : A → ℕ
  pub meets_goal : S → Bool

-- The state after a list of actions, each applied in the state that those before it lead to; None if one of them is not
-- applicable there (Fox & Long 2003, section 8.2: executability of a plan).
abbrev pub run : {S A : Type 0} → System S A → S → List A → Option S
run t s [] = Some s
run t s (a ∷ rest) = option_and_then (λ next. run t next rest) (t.step s a)

-- the sum of the actions' costs
abbrev pub cost_of_all : {S A : Type 0} → System S A → List A → ℕ
cost_of_all t plan = sum_by t.cost plan

-- some list of actions leads from the initial state to this one
abbrev pub IsReachable : {S A : Type 0} → System S A → S → Type 0
IsReachable {S} {A} t s = (actions : List A) × (run t t.initial actions ≡ Some s)

-- the list leads from the initial state to a goal state (Fox & Long 2003, section 8.2: validity of a plan)
abbrev pub Solves : {S A : Type 0} → System S A → List A → Type 0
Solves {S} {A} t plan = (s : S) × (run t t.initial plan ≡ Some s) × IsTrue (t.meets_goal s)

-- every list that solves the system, of whatever length, costs at least this
abbrev pub CostsAtLeast : {S A : Type 0} → System S A → ℕ → Type 0
CostsAtLeast {S} {A} t bound = (plan : List A) → Solves t plan → bound ≤ cost_of_all t plan

-- the list solves the system, and no list that solves it costs less
abbrev pub IsOptimal : {S A : Type 0} → System S A → List A → Type 0
IsOptimal t plan = Solves t plan × CostsAtLeast t (cost_of_all t plan)

-- no list solves the system
abbrev pub IsUnsolvable : {S A : Type 0} → System S A → Type 0
IsUnsolvable {S} {A} t = (plan : List A) → Solves t plan → ⊥

-- a verdict on a list of actions
pub data Verdict : Type 0 where
  -- it solves the system, at this cost
  valid : ℕ → Verdict
  -- the position, counted from 1, of the first action that is not applicable when its turn comes
  not_applicable : ℕ → Verdict
  -- all its actions are applicable, but the goal does not hold at the end
  goal_missed : Verdict

-- the actions before the n-th lead to a state in which the n-th is not applicable; n counts from 1
pub record StopsAt {S A : Type 0} (t : System S A) (plan : List A) (n : ℕ) : Type 0 where
  pub counted_from_one : 1 ≤ n
  pub before : S
  pub next : A
  pub runs : run t t.initial (take (n - 1) plan) ≡ Some before
  pub found_there : slice_get plan (n - 1) ≡ Some next
  pub is_not_applicable : t.step before next ≡ None

-- the verdict is true of the list; exactly one verdict is true of each list
abbrev pub IsVerdict : {S A : Type 0} → System S A → List A → Verdict → Type 0
IsVerdict t plan (valid cost) = Solves t plan × (cost ≡ cost_of_all t plan)
IsVerdict t plan (not_applicable n) = StopsAt t plan n
IsVerdict {S} t plan goal_missed = (s : S) × (run t t.initial plan ≡ Some s) × (t.meets_goal s ≡ false)
