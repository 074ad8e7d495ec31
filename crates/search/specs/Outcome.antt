-- What the outcome of a search says of a transition system.
use Rattle.std.specs.Prelude.{◌≡◌, ℕ, ◌+◌, ◌*◌, ◌<◌, ◌≤◌, Bool, true, false, if◌then◌else◌, List, [], ◌∷◌, length, slice_get, Some, Contains}
use Rattle.model.specs.Runs.{System, run, cost_of_all, IsReachable, CostsAtLeast, IsOptimal, IsUnsolvable}
use Rattle.model.specs.Bisimulation.{ReachGoalsAlike}
use Rattle.model.specs.Claims.{Claim, bound, none, Mark, expanded, cut, dead, Line, IsClosed}
use Rattle.search.specs.declared.nodes.Node.{Node}
use Rattle.search.specs.declared.nodes.NodeStatus.{NodeStatus}
use Rattle.search.specs.declared.nodes.NodeStatus.TheVariants.{Unexpanded, Reopened, Expanded, Dead}
use Rattle.search.specs.declared.best.Outcome.{Outcome}
use Rattle.search.specs.declared.best.Outcome.TheVariants.{Found, Exhausted, States}
use Rattle.packed_state.specs.Store.{AreDistinct}
use Rattle.search.specs.Estimates.{IsConsistent}
use Rattle.search.specs.DeadEnds.{DetectsDeadEnds}

-- some list of actions leads from the initial state to this one, at this cost
abbrev pub IsReachableAt : {S A : Type 0} → System S A → S → ℕ → Type 0
IsReachableAt {S} {A} t s cost = (actions : List A) × (run t t.initial actions ≡ Some s) × (cost_of_all t actions ≡ cost)

-- no list of actions that leads from the initial state to this one costs less
abbrev pub ReachingCostsAtLeast : {S A : Type 0} → System S A → S → ℕ → Type 0
ReachingCostsAtLeast {S} {A} t s least = (actions : List A) → run t t.initial actions ≡ Some s → least ≤ cost_of_all t actions

-- the two states are of one class
abbrev pub AreOfOneClass : {S : Type 0} → (S → S) → S → S → Type 0
AreOfOneClass class_of s r = class_of s ≡ class_of r

-- each state is a class of its own
abbrev pub AreOwnClasses : {S : Type 0} → (S → S) → Type 0
AreOwnClasses {S} class_of = (s r : S) → AreOfOneClass class_of s r → s ≡ r

-- the goal is reached alike from states of one class
abbrev pub AreClassesOf : {S A : Type 0} → System S A → (S → S) → Type 0
AreClassesOf {S} t class_of = (s r : S) → AreOfOneClass class_of s r → ReachGoalsAlike t s r

-- the state was expanded at its present cost
abbrev pub is_expanded_status : NodeStatus → Bool
is_expanded_status Unexpanded = false
is_expanded_status Reopened = false
is_expanded_status Expanded = true
is_expanded_status Dead = false

abbrev pub is_expanded : Node → Bool
is_expanded node = is_expanded_status node.status

-- the state is marked dead
abbrev pub is_dead_status : NodeStatus → Bool
is_dead_status Unexpanded = false
is_dead_status Reopened = false
is_dead_status Expanded = false
is_dead_status Dead = true

abbrev pub is_marked_dead : Node → Bool
is_marked_dead node = is_dead_status node.status

-- exactly the states that are reported dead are marked dead
abbrev pub AreMarked : {S : Type 0} → (S → Bool) → List S → List Node → Type 0
AreMarked {S} is_dead states nodes = (k : ℕ) (s : S) (node : Node) → slice_get states k ≡ Some s → slice_get nodes k ≡ Some node → is_marked_dead node ≡ is_dead s

-- the mark of a found state in a listing: expanded if it was, dead if it is reported dead, and otherwise a cut with its estimate
abbrev pub mark_of : {S : Type 0} → (S → ℕ) → (S → Bool) → S → Node → Mark
mark_of value is_dead s node = if is_expanded node then expanded else (if is_dead s then dead else cut (value s))

-- the line of a found state in a listing
abbrev pub line_of : {S : Type 0} → (S → ℕ) → (S → Bool) → S → Node → Line S
line_of value is_dead s node = record { state = s; cost = node.cost; mark = mark_of value is_dead s node }

-- the lines of the found states, in order
abbrev pub lines_of : {S : Type 0} → (S → ℕ) → (S → Bool) → List S → List Node → List (Line S)
lines_of value is_dead [] nodes = []
lines_of value is_dead (s ∷ states) [] = []
lines_of value is_dead (s ∷ states) (node ∷ nodes) = line_of value is_dead s node ∷ lines_of value is_dead states nodes

-- What is known of the found states of a search by these classes, this estimate and this test for dead ends. Several states of one class
-- may be listed.
pub record AreFound {S A : Type 0} (t : System S A) (class_of : S → S) (value : S → ℕ) (is_dead : S → Bool) (claim : Claim) (max_states : ℕ) (states : List S) (nodes : List Node) : Type 0 where
  pub one_for_each : length nodes ≡ length states
  pub within_limit : length states ≤ max_states
  pub distinct : AreDistinct states
  pub reachable : (k : ℕ) (s : S) (node : Node) → slice_get states k ≡ Some s → slice_get nodes k ≡ Some node → IsReachableAt t s node.cost
  -- an action's cost fits 32 bits, and a state is reached first from one that was found before
  pub cheap : (k : ℕ) (node : Node) → slice_get nodes k ≡ Some node → node.cost ≤ length states * 4294967295
  -- if each state is a class of its own, the estimate is consistent, and successors of reported dead ends are reported, an expanded
  -- state was reached by a cheapest way
  pub expanded_cheapest : AreOwnClasses class_of → IsConsistent t value → DetectsDeadEnds t is_dead → (k : ℕ) (s : S) (node : Node) → slice_get states k ≡ Some s → slice_get nodes k ≡ Some node → is_expanded node ≡ true
      → ReachingCostsAtLeast t s node.cost
  pub marked : AreMarked is_dead states nodes
  -- no state that is reported dead was expanded
  pub expanded_alive : (k : ℕ) (s : S) (node : Node) → slice_get states k ≡ Some s → slice_get nodes k ≡ Some node → is_expanded node ≡ true → is_dead s ≡ false
  pub closed : IsClosed t (AreOfOneClass class_of) claim (lines_of value is_dead states nodes)

-- no expanded state has a greater sum of cost and estimate than this
abbrev pub AreExpandedWithin : {S : Type 0} → (S → ℕ) → ℕ → List S → List Node → Type 0
AreExpandedWithin {S} value most states nodes =
    (k : ℕ) (s : S) (node : Node) → slice_get states k ≡ Some s → slice_get nodes k ≡ Some node → is_expanded node ≡ true → node.cost + value s ≤ most

-- A search by this estimate may have to find the state before any plan is known to be cheapest: it is the initial state, or the
-- successor of a state that does not meet the goal, is not reported dead, and is reached at a cost that, with its estimate, is no more
-- than any list that solves costs. (Russell & Norvig, Artificial Intelligence, section 3.5.3, on search contours: no state is expanded
-- whose cost and estimate exceed the cost of a cheapest plan. Some whose sum is equal may be; this leaves open which.)
pub data PrecedesPlans {S A : Type 0} (t : System S A) (value : S → ℕ) (is_dead : S → Bool) (s : S) : Type 0 where
  is_initial : s ≡ t.initial → PrecedesPlans t value is_dead s
  is_next : (actions : List A) (before : S) (a : A) → run t t.initial actions ≡ Some before → t.meets_goal before ≡ false → is_dead before ≡ false
      → CostsAtLeast t (cost_of_all t actions + value before) → t.step before a ≡ Some s → PrecedesPlans t value is_dead s

-- More states than the limit are reachable and may have to be found before any plan is known to be cheapest.
abbrev pub AreMoreReachable : {S A : Type 0} → System S A → (S → ℕ) → (S → Bool) → ℕ → Type 0
AreMoreReachable {S} t value is_dead max_states =
    (states : List S) × AreDistinct states × ((s : S) → Contains states s → IsReachable t s × PrecedesPlans t value is_dead s) × (max_states < length states)

-- the found state is a cut: it was not expanded, and it is not reported dead
abbrev pub IsCut : {S : Type 0} → (S → Bool) → S → Node → Type 0
IsCut is_dead s node = (is_expanded node ≡ false) × (is_dead s ≡ false)

-- What is known of the found states of a search that stopped at the limit. They are as many as the limit allows, and prove that each list
-- that solves costs at least the least sum of cost and estimate over their cuts, of which there is at least one. No list that solves
-- costs less than an expanded state with its estimate. With a consistent estimate, no expanded state has a greater sum than the cuts,
-- and the initial state no greater estimate. A state whose expansion was not finished is a cut.
pub record IsAtLimit {S A : Type 0} (t : System S A) (class_of : S → S) (value : S → ℕ) (is_dead : S → Bool) (max_states least : ℕ) (states : List S) (nodes : List Node) : Type 0 where
  pub found : AreFound t class_of value is_dead (bound least) max_states states nodes
  pub full : length states ≡ max_states
  pub at_most_each_cut : (k : ℕ) (s : S) (node : Node) → slice_get states k ≡ Some s → slice_get nodes k ≡ Some node → IsCut is_dead s node → least ≤ node.cost + value s
  pub of_some_cut : (k : ℕ) × (s : S) × (node : Node) × (slice_get states k ≡ Some s) × (slice_get nodes k ≡ Some node) × IsCut is_dead s node × (node.cost + value s ≡ least)
  pub expanded_no_dearer : (k : ℕ) (s : S) (node : Node) → slice_get states k ≡ Some s → slice_get nodes k ≡ Some node → is_expanded node ≡ true → CostsAtLeast t (node.cost + value s)
  pub expanded_within : IsConsistent t value → AreExpandedWithin value least states nodes
  pub start_within : IsConsistent t value → value t.initial ≤ least
  pub costs_at_least : CostsAtLeast t least

-- The outcome of a search by these classes, this estimate and this test for dead ends is true: the steps are a cheapest list that
-- solves, or no list solves, and the found states prove it; or the limit is exceeded, and the found states prove the bound.
abbrev pub IsTrueOutcome : {S Store : Type 0} → System S ℕ → (S → S) → (S → ℕ) → (S → Bool) → (Store → List S) → ℕ → Outcome Store → Type 0
IsTrueOutcome t class_of value is_dead states_of max_states (Found steps cost found) =
    IsOptimal t steps.items × (cost_of_all t steps.items ≡ cost)
    × AreFound t class_of value is_dead (bound cost) max_states (states_of found.store) found.nodes.items
    × (length steps.items ≤ max_states)
    × AreExpandedWithin value cost (states_of found.store) found.nodes.items
IsTrueOutcome t class_of value is_dead states_of max_states (Exhausted found) =
    IsUnsolvable t × AreFound t class_of value is_dead none max_states (states_of found.store) found.nodes.items
IsTrueOutcome t class_of value is_dead states_of max_states (States least found) =
    AreMoreReachable t value is_dead max_states × IsAtLimit t class_of value is_dead max_states least (states_of found.store) found.nodes.items

-- there is a number for each found state, and that of a cut is its estimate
abbrev pub AreEstimates : {S : Type 0} → (S → ℕ) → (S → Bool) → List S → List Node → List ℕ → Type 0
AreEstimates {S} value is_dead states nodes estimates =
    (length estimates ≡ length nodes)
    × ((k : ℕ) (s : S) (node : Node) → slice_get states k ≡ Some s → slice_get nodes k ≡ Some node → IsCut is_dead s node → slice_get estimates k ≡ Some (value s))

-- the outcome tells the estimates of its cuts
abbrev pub HasEstimates : {S Store : Type 0} → (S → ℕ) → (S → Bool) → (Store → List S) → Outcome Store → Type 0
HasEstimates value is_dead states_of (Found steps cost found) = AreEstimates value is_dead (states_of found.store) found.nodes.items found.estimates.items
HasEstimates value is_dead states_of (Exhausted found) = AreEstimates value is_dead (states_of found.store) found.nodes.items found.estimates.items
HasEstimates value is_dead states_of (States least found) = AreEstimates value is_dead (states_of found.store) found.nodes.items found.estimates.items
