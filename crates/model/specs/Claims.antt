-- What a certificate claims about all plans, and the finite condition on a listing of states that implies it. Over any transition
-- system, as `Runs`.
use Rattle.std.specs.Prelude.{◌≡◌, ℕ, ◌+◌, ◌≤◌, Bool, false, IsTrue, List, Contains, Some}
use Rattle.model.specs.Runs.{System, run, cost_of_all, IsReachable, Solves}
use Rattle.model.specs.Bisimulation.{ReachGoalsAlike}

-- a claim of a certificate about all plans
pub data Claim : Type 0 where
  -- every list of actions that solves the system costs at least this
  bound : ℕ → Claim
  -- no list of actions solves the system
  none : Claim

-- the claim admits a list that solves the system at this cost
abbrev pub Allows : Claim → ℕ → Type 0
Allows (bound least) cost = least ≤ cost
Allows none cost = ⊥

-- the claim is true: it admits the cost of every list, of whatever length, that solves the system
abbrev pub ClaimHolds : {S A : Type 0} → System S A → Claim → Type 0
ClaimHolds {S} {A} t claim = (plan : List A) → Solves t plan → Allows claim (cost_of_all t plan)

-- the role of a state in a listing
pub data Mark : Type 0 where
  -- all its successors are listed
  expanded : Mark
  -- it is not expanded: the remaining cost is at least this
  cut : ℕ → Mark
  -- no list of actions leads from it to the goal
  dead : Mark

-- a state of a listing, with the cost at which it is listed
pub record Line (S : Type 0) : Type 0 where
  pub state : S
  pub cost : ℕ
  pub mark : Mark

-- a state in the same class is listed at no more than this cost
abbrev pub IsListedWithin : {S : Type 0} → (S → S → Type 0) → List (Line S) → S → ℕ → Type 0
IsListedWithin {S} alike lines s cost = (line : Line S) × Contains lines line × alike line.state s × (line.cost ≤ cost)

-- the value of a reachable state is a lower bound of the remaining cost
abbrev pub IsLowerBound : {S A : Type 0} → System S A → (S → ℕ) → Type 0
IsLowerBound {S} {A} t value =
    (s end : S) (plan : List A) → IsReachable t s → run t s plan ≡ Some end → IsTrue (t.meets_goal end) → value s ≤ cost_of_all t plan

-- a reachable state that satisfies this is a dead end: no list of actions leads from it to the goal
abbrev pub AreDeadEnds : {S A : Type 0} → System S A → (S → Bool) → Type 0
AreDeadEnds {S} {A} t is_dead =
    (s end : S) (plan : List A) → IsReachable t s → IsTrue (is_dead s) → run t s plan ≡ Some end → t.meets_goal end ≡ false

-- What the marks of a listing say is true: from a cut at least the rest is still to pay, and from a dead end no list of actions leads to
-- the goal. A listed state need not be reachable.
pub record AreTrue {S A : Type 0} (t : System S A) (lines : List (Line S)) : Type 0 where
  pub cuts : (line : Line S) (rest : ℕ) (end : S) (plan : List A) → Contains lines line → line.mark ≡ cut rest → run t line.state plan ≡ Some end
      → IsTrue (t.meets_goal end) → rest ≤ cost_of_all t plan
  pub dead_ends : (line : Line S) (end : S) (plan : List A) → Contains lines line → line.mark ≡ dead → run t line.state plan ≡ Some end → t.meets_goal end ≡ false

-- No list of actions leaves the listing at less than the claim allows: for the initial state and for each successor of an open
-- state, a state of the same class is listed at no more than the cost of reaching it, and goals and cuts are allowed by the claim. Goals
-- are those of the listed state itself. If classes are singletons, this is about the states themselves. (The closed list of a search in
-- an orbit space: Domshlak, Katz & Shleyfman 2015.)
pub record IsClosed {S A : Type 0} (t : System S A) (alike : S → S → Type 0) (claim : Claim) (lines : List (Line S)) : Type 0 where
  pub initial_listed : IsListedWithin alike lines t.initial 0
  pub successors_listed : (line : Line S) (a : A) (next : S) → Contains lines line → line.mark ≡ expanded → t.step line.state a ≡ Some next
      → IsListedWithin alike lines next (line.cost + t.cost a)
  pub expanded_goals_allowed : (line : Line S) → Contains lines line → line.mark ≡ expanded → IsTrue (t.meets_goal line.state) → Allows claim line.cost
  pub cuts_allowed : (line : Line S) (rest : ℕ) → Contains lines line → line.mark ≡ cut rest → Allows claim (line.cost + rest)

-- What a closed listing shows, if its marks are true and the goal is reached at the same costs from states of the same class: its claim is
-- true.
abbrev pub ClosedListingsClaim : {S A : Type 0} → System S A → (S → S → Type 0) → Type 0
ClosedListingsClaim {S} {A} t alike =
    ((s r : S) → alike s r → ReachGoalsAlike t s r) → (claim : Claim) (lines : List (Line S)) → AreTrue t lines → IsClosed t alike claim lines → ClaimHolds t claim
