-- What a search keeps true of its found states.
use Rattle.std.specs.Prelude.{◌≡◌, ◌==◌, ℕ, ◌+◌, ◌-◌, ◌*◌, ◌≤◌, ◌<◌, ◌≢◌, Bool, true, false, if◌then◌else◌, Option, None, Some, List, [], ◌∷◌, ◌++◌, length, slice_get, Contains, sum_by, All}
use Rattle.std.specs.declared.cmp.Reverse.{Reverse}
use Rattle.model.specs.Runs.{System, CostsAtLeast}
use Rattle.search.specs.declared.nodes.StateId.{StateId}
use Rattle.search.specs.declared.nodes.Node.{Node}
use Rattle.search.specs.declared.nodes.NodeStatus.{NodeStatus}
use Rattle.search.specs.declared.nodes.NodeStatus.TheVariants.{Unexpanded, Reopened, Expanded, Dead}
use Rattle.search.specs.declared.nodes.ShortId.{ShortId}
use Rattle.search.specs.Estimates.{IsConsistent}
use Rattle.search.specs.DeadEnds.{DetectsDeadEnds}
use Rattle.search.specs.Outcome.{AreOfOneClass, AreOwnClasses, is_expanded, is_marked_dead, IsReachableAt, ReachingCostsAtLeast, IsCut}

-- an entry of the open list: the sum of a waiting state's cost and estimate, its estimate, and its place
abbrev pub Waiting : Type 0
Waiting = Reverse (ℕ × ℕ × StateId)

abbrev pub sum_of : Waiting → ℕ
sum_of w = w.0.0

abbrev pub estimate_of : Waiting → ℕ
estimate_of w = w.0.1

abbrev pub place_of : Waiting → ℕ
place_of w = w.0.2.0

abbrev pub entry_at : ℕ → ℕ → ℕ → Waiting
entry_at sum estimate place = record { 0 = (sum, estimate, record { 0 = place }) }

abbrev pub entry : ℕ → ℕ → ℕ → Waiting
entry cost estimate place = entry_at (cost + estimate) estimate place

-- 1 for an entry of this place and this cost
abbrev pub times_at : ℕ → ℕ → Waiting → ℕ
times_at place cost w = if place_of w == place then (if cost + estimate_of w == sum_of w then 1 else 0) else 0

-- how many entries are of this place and this cost
abbrev pub entries_at : ℕ → ℕ → List Waiting → ℕ
entries_at place cost open_list = sum_by (times_at place cost) open_list

-- at most one entry is of one place and one cost, so a state that waits has one current entry
abbrev pub AreSingle : List Waiting → Type 0
AreSingle open_list = (place cost : ℕ) → entries_at place cost open_list ≤ 1

-- the entry's place is below this count, and its estimate is no greater than its sum
abbrev pub IsEntry : ℕ → Waiting → Type 0
IsEntry count w = (place_of w < count) × (estimate_of w ≤ sum_of w)

-- the entry is current: its state waits at the entry's cost
abbrev pub IsCurrent : List Node → Waiting → Type 0
IsCurrent nodes w = (node : Node) × (slice_get nodes (place_of w) ≡ Some node) × (node.cost + estimate_of w ≡ sum_of w) × (is_expanded node ≡ false)

-- the place in three bytes
abbrev pub place_in : ShortId → ℕ
place_in id = id.low + id.middle * 256 + id.high * 65536

-- the status of a new state with this estimate; None: it is reported dead
abbrev pub status_of_reached : Option ℕ → NodeStatus
status_of_reached (Some estimate) = Unexpanded
status_of_reached None = Dead

-- the state was ever expanded, at least in part, so it may be the parent of others
abbrev pub has_been_expanded_status : NodeStatus → Bool
has_been_expanded_status Unexpanded = false
has_been_expanded_status Reopened = true
has_been_expanded_status Expanded = true
has_been_expanded_status Dead = false

abbrev pub has_been_expanded : Node → Bool
has_been_expanded node = has_been_expanded_status node.status

-- the status after the state is reached at a lower cost
abbrev pub status_again : NodeStatus → Option ℕ → NodeStatus
status_again before (Some estimate) = if has_been_expanded_status before then Reopened else Unexpanded
status_again before None = Dead

-- the place of the parent
abbrev pub parent_of : Node → ℕ
parent_of node = place_in node.parent

-- a found state and its node
pub record Found (S : Type 0) : Type 0 where
  pub state : S
  pub node : Node

-- the found states, in the order of the two lists
abbrev pub found_of : {S : Type 0} → List S → List Node → List (Found S)
found_of [] nodes = []
found_of (s ∷ states) [] = []
found_of (s ∷ states) (node ∷ nodes) = record { state = s; node = node } ∷ found_of states nodes

-- the found state waits: it was not expanded at its present cost, and is not reported dead
abbrev pub IsWaiting : {S : Type 0} → (S → Bool) → Found S → Type 0
IsWaiting is_dead n = IsCut is_dead n.state n.node

-- the sum of a found state's cost and estimate
abbrev pub total_of : {S : Type 0} → (S → ℕ) → Found S → ℕ
total_of value n = n.node.cost + value n.state

-- The entry's state is reached at the entry's cost or a lower one. At an equal cost the entry has the state's estimate, and the state is
-- not reported dead. An entry of a greater cost may be that of another state of the class, whose place this one took.
pub record IsEntryOf {S : Type 0} (value : S → ℕ) (is_dead : S → Bool) (nodes : List (Found S)) (w : Waiting) : Type 0 where
  pub found : Found S
  pub occurs : slice_get nodes (place_of w) ≡ Some found
  pub no_dearer : found.node.cost + estimate_of w ≤ sum_of w
  pub alive : found.node.cost + estimate_of w ≡ sum_of w → is_dead found.state ≡ false
  pub estimate : found.node.cost + estimate_of w ≡ sum_of w → estimate_of w ≡ value found.state

-- the greatest cost of an action
abbrev pub dearest : ℕ
dearest = 4294967295

-- how often a found state may still be reached at a lower cost or expanded: at each cost it is expanded at most once
abbrev pub work_at : {S : Type 0} → Found S → ℕ
work_at n = n.node.cost * 2 + (if is_expanded n.node then 0 else 1)

-- the same for all states, of which at most this many are found
abbrev pub work_left : {S : Type 0} → (most : ℕ) → List (Found S) → ℕ
work_left most nodes = (most - length nodes) * (most * dearest * 2 + 2) + sum_by work_at nodes

module _ {S : Type 0} (t : System S ℕ) (value : S → ℕ) (is_dead : S → Bool) (nodes : List (Found S)) where
  -- The node's action leads to it from its parent, at no more than its cost. The parent was being expanded then, and may have been
  -- reached at a lower cost since. A state that was never expanded is no parent, so another of its class may take its place.
  pub record Leads (n : Found S) : Type 0 where
    pub parent : Found S
    pub occurs : slice_get nodes (parent_of n.node) ≡ Some parent
    pub cost : parent.node.cost + t.cost n.node.action ≤ n.node.cost
    pub expanded : has_been_expanded parent.node ≡ true
    pub step : t.step parent.state n.node.action ≡ Some n.state
    pub no_goal : t.meets_goal parent.state ≡ false
    pub alive : is_dead parent.state ≡ false
    pub no_dearer : CostsAtLeast t (parent.node.cost + value parent.state)

-- from parent to child, these actions lead from the initial state, which is found first, to the state at this place
pub data IsPathBy {X : Type 0} (node_of : X → Node) (nodes : List X) : ℕ → List ℕ → Type 0 where
  begins : {k : ℕ} {path : List ℕ} → k ≡ 0 → path ≡ [] → IsPathBy node_of nodes k path
  follows : {k : ℕ} {path : List ℕ} (x : X) (before : List ℕ) → k ≢ 0 → slice_get nodes k ≡ Some x
      → IsPathBy node_of nodes (parent_of (node_of x)) before → path ≡ before ++ (node_of x).action ∷ [] → IsPathBy node_of nodes k path

abbrev pub IsPath : List Node → ℕ → List ℕ → Type 0
IsPath nodes k path = IsPathBy (λ (node : Node). node) nodes k path

-- there is such a list of at most this many actions
abbrev pub IsReachedIn : List Node → ℕ → ℕ → Type 0
IsReachedIn nodes k most = (path : List ℕ) × IsPath nodes k path × (length path ≤ most)

-- the same for found states
abbrev pub IsWay : {S : Type 0} → List (Found S) → ℕ → List ℕ → Type 0
IsWay {S} nodes k path = IsPathBy (λ (n : Found S). n.node) nodes k path

abbrev pub HasWay : {S : Type 0} → List (Found S) → ℕ → Type 0
HasWay {S} nodes k = (path : List ℕ) × IsWay nodes k path

-- these later values are the search's own in states that have been expanded
abbrev pub AreSettled : {S : Type 0} → (value later : S → ℕ) → List (Found S) → Type 0
AreSettled {S} value later nodes = (k : ℕ) (n : Found S) → slice_get nodes k ≡ Some n → has_been_expanded n.node ≡ true → later n.state ≡ value n.state

-- Values and a test for dead ends to which a search may still come. Values of listed states only rise, and reported dead ends stay
-- reported. Where a state has been expanded, nothing changes.
pub record IsLater {S : Type 0} (value later : S → ℕ) (is_dead later_dead : S → Bool) (nodes : List (Found S)) : Type 0 where
  pub settled : AreSettled value later nodes
  pub settled_dead : (k : ℕ) (n : Found S) → slice_get nodes k ≡ Some n → has_been_expanded n.node ≡ true → later_dead n.state ≡ is_dead n.state
  pub no_less : (k : ℕ) (n : Found S) → slice_get nodes k ≡ Some n → value n.state ≤ later n.state
  pub stays_dead : (k : ℕ) (n : Found S) → slice_get nodes k ≡ Some n → is_dead n.state ≡ true → later_dead n.state ≡ true

module _ {S : Type 0} (t : System S ℕ) (class_of : S → S) (value : S → ℕ) (is_dead : S → Bool) (nodes : List (Found S)) where
  -- What holds of the found states at any time. Each waiting state has an entry of its cost and estimate. With a consistent estimate,
  -- no waiting state has a lesser sum than an expanded one; and so it is if the values become consistent later.
  pub record AreNodes (open_list : List Waiting) : Type 0 where
    pub root : (n : Found S) × (slice_get nodes 0 ≡ Some n) × (n.state ≡ t.initial) × (n.node.cost ≡ 0)
    pub linked : (k : ℕ) (n : Found S) → slice_get nodes k ≡ Some n → k ≢ 0 → Leads t value is_dead nodes n
    pub distinct : (j k : ℕ) (m n : Found S) → slice_get nodes j ≡ Some m → slice_get nodes k ≡ Some n → m.state ≡ n.state → j ≡ k
    pub cheap : (k : ℕ) (n : Found S) → slice_get nodes k ≡ Some n → n.node.cost ≤ length nodes * dearest
    pub reached : (k : ℕ) (n : Found S) → slice_get nodes k ≡ Some n → HasWay nodes k
    pub reachable : (k : ℕ) (n : Found S) → slice_get nodes k ≡ Some n → IsReachableAt t n.state n.node.cost
    pub no_goal : (k : ℕ) (n : Found S) → slice_get nodes k ≡ Some n → is_expanded n.node ≡ true → t.meets_goal n.state ≡ false
    pub no_dearer : (k : ℕ) (n : Found S) → slice_get nodes k ≡ Some n → is_expanded n.node ≡ true → CostsAtLeast t (n.node.cost + value n.state)
    pub cheapest : AreOwnClasses class_of → (later : S → ℕ) (later_dead : S → Bool) → IsLater value later is_dead later_dead nodes → IsConsistent t later → DetectsDeadEnds t later_dead → (k : ℕ) (n : Found S) → slice_get nodes k ≡ Some n → is_expanded n.node ≡ true → ReachingCostsAtLeast t n.state n.node.cost
    pub alive : (k : ℕ) (n : Found S) → slice_get nodes k ≡ Some n → is_expanded n.node ≡ true → is_dead n.state ≡ false
    pub marked : (k : ℕ) (n : Found S) → slice_get nodes k ≡ Some n → is_marked_dead n.node ≡ is_dead n.state
    pub ordered : (later : S → ℕ) → AreSettled value later nodes → IsConsistent t later → (j k : ℕ) (m n : Found S) → slice_get nodes j ≡ Some m → slice_get nodes k ≡ Some n → is_expanded m.node ≡ true → IsWaiting is_dead n
        → value n.state ≤ later n.state → total_of later m ≤ total_of later n
    pub queued : (k : ℕ) (n : Found S) → slice_get nodes k ≡ Some n → IsWaiting is_dead n → Contains open_list (entry n.node.cost (value n.state) k)
    pub entries : All (IsEntryOf value is_dead nodes) open_list

-- a state of this class is found, at no more than this cost
abbrev pub IsFoundWithin : {S : Type 0} → (S → S) → List (Found S) → S → ℕ → Type 0
IsFoundWithin {S} class_of nodes s cost = (k : ℕ) × (n : Found S) × (slice_get nodes k ≡ Some n) × AreOfOneClass class_of n.state s × (n.node.cost ≤ cost)

-- for each successor of the found state, a state of its class is found, at no more than the cost from there
abbrev pub IsClosedAt : {S : Type 0} → System S ℕ → (S → S) → List (Found S) → Found S → Type 0
IsClosedAt {S} t class_of nodes n = (a : ℕ) (next : S) → t.step n.state a ≡ Some next → IsFoundWithin class_of nodes next (n.node.cost + t.cost a)

-- this holds for each expanded state
abbrev pub AreClosed : {S : Type 0} → System S ℕ → (S → S) → List (Found S) → Type 0
AreClosed {S} t class_of nodes = (k : ℕ) (n : Found S) → slice_get nodes k ≡ Some n → is_expanded n.node ≡ true → IsClosedAt t class_of nodes n

-- and for each expanded state except that at this place
abbrev pub AreClosedBut : {S : Type 0} → System S ℕ → (S → S) → List (Found S) → ℕ → Type 0
AreClosedBut {S} t class_of nodes i = (k : ℕ) (n : Found S) → slice_get nodes k ≡ Some n → is_expanded n.node ≡ true → k ≢ i → IsClosedAt t class_of nodes n

-- the state at this place is being expanded; with a consistent estimate, or one that becomes so, no expanded state has a greater sum
pub record IsTurn {S : Type 0} (t : System S ℕ) (value : S → ℕ) (nodes : List (Found S)) (i : ℕ) : Type 0 where
  pub found : Found S
  pub occurs : slice_get nodes i ≡ Some found
  pub expanded : is_expanded found.node ≡ true
  pub greatest : (later : S → ℕ) → AreSettled value later nodes → IsConsistent t later → (k : ℕ) (n : Found S) → slice_get nodes k ≡ Some n → is_expanded n.node ≡ true → total_of later n ≤ total_of later found

-- Except at one place, the nodes are the same. There a node is new, or is cheaper and waits: with the same state, or with another of its
-- class if that was never expanded.
pub record Updates {S : Type 0} (class_of : S → S) (nodes after : List (Found S)) (j : ℕ) (m : Found S) : Type 0 where
  pub here : slice_get after j ≡ Some m
  pub others : (k : ℕ) → k ≢ j → slice_get after k ≡ slice_get nodes k
  pub waits : is_expanded m.node ≡ false
  pub same_class : (n : Found S) → slice_get nodes j ≡ Some n → AreOfOneClass class_of m.state n.state
  pub same_state : (n : Found S) → slice_get nodes j ≡ Some n → has_been_expanded n.node ≡ true → (m.state ≡ n.state) × (has_been_expanded m.node ≡ true)
  pub cheaper : (n : Found S) → slice_get nodes j ≡ Some n → m.node.cost < n.node.cost
  pub only : (k : ℕ) (n : Found S) → slice_get nodes k ≡ Some n → n.state ≡ m.state → k ≡ j
  pub longer : length nodes ≤ length after
  pub less : (most : ℕ) → length after ≤ most → m.node.cost ≤ most * dearest → work_left most after ≤ work_left most nodes

-- the node with this status
abbrev pub marked_as : NodeStatus → Node → Node
marked_as status node = record { cost = node.cost; status = status; parent = node.parent; action = node.action }

abbrev pub marked : {S : Type 0} → NodeStatus → Found S → Found S
marked status n = record { state = n.state; node = marked_as status n.node }
