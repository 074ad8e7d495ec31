-- What a search keeps true during an expansion, and between two of them.
use Rattle.std.specs.Prelude.{◌≡◌, ◌≢◌, ℕ, ◌+◌, ◌*◌, ◌≤◌, ◌<◌, ◌⊎◌, ⊤, Bool, true, false, List, [], ◌∷◌, ◌++◌, length, replicate, set, slice_get, slice_set, Option, Some, Contains, All}
use Rattle.model.specs.Runs.{System}
use Rattle.search.specs.declared.nodes.Node.{Node}
use Rattle.packed_state.specs.Packed.{bits_of}
use Rattle.search.specs.declared.buffers.Buffers.{Buffers}
use Rattle.search.specs.declared.progress.Progress.{Progress}
use Rattle.search.specs.declared.turns.Turn.{Turn}
use Rattle.search.specs.declared.listing.Place.{Place}
use Rattle.search.specs.declared.listing.Place.TheVariants.{New, Listed, Alike}
use Rattle.search.specs.Listing.{IsAlikeAt}
use Rattle.search.specs.declared.bases.Rest.{Rest}
use Rattle.search.specs.OnDemand.{HoldsBy, IsNoted, noted_at}
use Rattle.search.specs.OpenList.{waiting_in, AreNoted, IsOpenList, JoinsBy}
use Rattle.search.specs.Outcome.{AreMoreReachable}
use Rattle.search.specs.Nodes.{Waiting, sum_of, estimate_of, place_of, entry, entries_at, AreSingle, IsCurrent, IsWaiting, total_of, IsEntryOf, has_been_expanded, status_again, Found, found_of, work_left, AreNodes, IsFoundWithin, AreClosed, AreClosedBut, IsTurn}

-- The state of this turn has the least sum of the waiting states, of these the least estimate, and of these the least place. It leaves the
-- open list, and the others stay in it.
pub record TakesNext (old new : List Waiting) (all : List Node) (turn : Turn) : Type 0 where
  pub next : Waiting
  pub occurs : place_of next ≡ turn.id.0
  pub sum : sum_of next ≡ turn.sum
  pub estimate : estimate_of next ≡ turn.estimate
  pub among : Contains old next
  pub current : IsCurrent all next
  pub least : (w : Waiting) → Contains old w → IsCurrent all w → sum_of next ≤ sum_of w
  pub nearest : (w : Waiting) → Contains old w → IsCurrent all w → sum_of w ≡ sum_of next → estimate_of next ≤ estimate_of w
  pub first : (w : Waiting) → Contains old w → IsCurrent all w → sum_of w ≡ sum_of next → estimate_of w ≡ estimate_of next → place_of next ≤ place_of w
  pub rest : (w : Waiting) → Contains old w → IsCurrent all w → place_of w ≢ turn.id.0 → Contains new w
  pub single : AreSingle old → AreSingle (next ∷ new)

-- the least of this sum and the sums of the current entries
pub record IsLeastWith (sum : ℕ) (open_list : List Waiting) (all : List Node) (least : ℕ) : Type 0 where
  pub no_greater : least ≤ sum
  pub at_most_each : (w : Waiting) → Contains open_list w → IsCurrent all w → least ≤ sum_of w
  pub of_one : (sum ≡ least) ⊎ ((w : Waiting) × Contains open_list w × IsCurrent all w × (sum_of w ≡ least))

-- the estimates of this turn's state and of the current entries are written to their places
abbrev pub AreNotedWith : List Node → Turn → List Waiting → List ℕ → Type 0
AreNotedWith all turn open_list estimates = AreNoted all open_list (set (replicate (length all) 0) turn.id.0 turn.estimate) estimates

-- the found states of a search
abbrev pub nodes_in : {S Store : Type 0} → (Store → List S) → Progress Store → List (Found S)
nodes_in states_of p = found_of (states_of p.store) p.nodes.items

-- this holds by the values of the search, and by its dead states
abbrev pub HoldsIn : {S Store : Type 0} → System S ℕ → (S → ℕ) → (S → Bool) → Bool → (Store → List S) → Progress Store → ((S → ℕ) → (S → Bool) → Type 0) → Type 0
HoldsIn t estimate reported answers states_of p P = HoldsBy t estimate reported answers (nodes_in states_of p) p.bases P

module _ {S Store : Type 0} (t : System S ℕ) (class_of : S → S) (value : S → ℕ) (is_dead : S → Bool) (states_of : Store → List S) (p : Progress Store) where
  -- between two expansions
  pub record IsSearch : Type 0 where
    pub one_each : length p.nodes.items ≡ length (states_of p.store)
    pub nodes : AreNodes t class_of value is_dead (nodes_in states_of p) (waiting_in p.open_list)
    pub heap : IsOpenList p.open_list
    pub single : AreSingle (waiting_in p.open_list)

  -- a state is about to be expanded: it waits, but is no longer in the open list
  pub record IsAtTurn (turn : Turn) : Type 0 where
    pub one_each : length p.nodes.items ≡ length (states_of p.store)
    pub open_list : List Waiting
    pub nodes : AreNodes t class_of value is_dead (nodes_in states_of p) open_list
    pub heap : IsOpenList p.open_list
    pub found : Found S
    pub occurs : slice_get (nodes_in states_of p) turn.id.0 ≡ Some found
    pub waits : IsWaiting is_dead found
    pub sum : turn.sum ≡ total_of value found
    pub estimate : turn.estimate ≡ value found.state
    pub least : (k : ℕ) (n : Found S) → slice_get (nodes_in states_of p) k ≡ Some n → IsWaiting is_dead n → total_of value found ≤ total_of value n
    pub rest : (k : ℕ) (n : Found S) → slice_get (nodes_in states_of p) k ≡ Some n → IsWaiting is_dead n → k ≢ turn.id.0 → Contains (waiting_in p.open_list) (entry n.node.cost (value n.state) k)
    pub entries : All (IsEntryOf value is_dead (nodes_in states_of p)) (waiting_in p.open_list)
    pub single : AreSingle (waiting_in p.open_list)
    -- and no entry of its cost is left
    pub gone : entries_at turn.id.0 found.node.cost (waiting_in p.open_list) ≡ 0

  -- the search has stopped at the limit: the state of this turn waits again, but is not in the open list
  pub record IsStopped (turn : Turn) (max_states : ℕ) : Type 0 where
    pub more : AreMoreReachable t value is_dead max_states
    pub full : length (states_of p.store) ≡ max_states
    pub one_each : length p.nodes.items ≡ length (states_of p.store)
    pub found : Found S
    pub occurs : slice_get (nodes_in states_of p) turn.id.0 ≡ Some found
    pub waits : IsWaiting is_dead found
    pub sum : turn.sum ≡ total_of value found
    pub estimate : turn.estimate ≡ value found.state
    pub nodes : AreNodes t class_of value is_dead (nodes_in states_of p) (entry found.node.cost (value found.state) turn.id.0 ∷ waiting_in p.open_list)
    pub are_open : AreClosed t class_of (nodes_in states_of p)
    pub heap : IsOpenList p.open_list

  -- the state at this place is being expanded
  pub record IsExpanding (i : ℕ) : Type 0 where
    pub search : IsSearch
    pub turn : IsTurn t value (nodes_in states_of p) i
    pub others_open : AreClosedBut t class_of (nodes_in states_of p) i

-- each found class stays found, at no greater cost, and the state that is being expanded stays as it is
pub record Continues {S : Type 0} (class_of : S → S) (old new : List (Found S)) (i : ℕ) : Type 0 where
  pub found : (s : S) (cost : ℕ) → IsFoundWithin class_of old s cost → IsFoundWithin class_of new s cost
  pub stays : (n : Found S) → slice_get old i ≡ Some n → slice_get new i ≡ Some n
  pub longer : length old ≤ length new
  pub less : (most : ℕ) → length new ≤ most → work_left most new ≤ work_left most old

-- a state of the successor's class is found, at no more than the cost from the state at this place by the action
abbrev pub IsListed : {S : Type 0} → System S ℕ → (S → S) → List (Found S) → ℕ → ℕ → S → Type 0
IsListed {S} t class_of nodes i a s = (n : Found S) → slice_get nodes i ≡ Some n → IsFoundWithin class_of nodes s (n.node.cost + t.cost a)

-- the place is one of this many, or the next one
abbrev pub IsPlaceAmong : ℕ → Place → Type 0
IsPlaceAmong count (New place) = (place ≡ count) × (count < 16777216)
IsPlaceAmong count (Listed place) = (place < count) × (count ≤ 16777216)
IsPlaceAmong count (Alike place) = (place < count) × (count ≤ 16777216)

-- the node at this place costs no more than this
abbrev pub IsNodeWithin : List Node → ℕ → ℕ → Type 0
IsNodeWithin nodes place cost = (node : Node) × (slice_get nodes place ≡ Some node) × (node.cost ≤ cost)

-- the node at this place costs more
abbrev pub IsNodeDearer : List Node → ℕ → ℕ → Type 0
IsNodeDearer nodes place cost = (node : Node) × (slice_get nodes place ≡ Some node) × (cost < node.cost)

-- the state at this place is found, at no more than this cost
abbrev pub IsReachedWithin : List Node → ℕ → Place → Type 0
IsReachedWithin nodes cost (New place) = ⊥
IsReachedWithin nodes cost (Listed place) = IsNodeWithin nodes place cost
IsReachedWithin nodes cost (Alike place) = IsNodeWithin nodes place cost

-- no state is at this place yet, or it costs more
abbrev pub IsReachedCheaper : List Node → ℕ → Place → Type 0
IsReachedCheaper nodes cost (New place) = ⊤
IsReachedCheaper nodes cost (Listed place) = IsNodeDearer nodes place cost
IsReachedCheaper nodes cost (Alike place) = IsNodeDearer nodes place cost

-- a state that is not listed may replace the current one of its class, or join it
abbrev pub IsFreeFor : {S : Type 0} → (S → S) → (ℕ → Type 0) → List S → ℕ → S → Place → Type 0
IsFreeFor class_of is_current states count s (New place) = ⊤
IsFreeFor class_of is_current states count s (Listed place) = ⊤
IsFreeFor class_of is_current states count s (Alike place) = (count ≡ length states) × (¬ Contains states s) × IsAlikeAt class_of states s place × is_current place

module _ {S Store : Type 0} (states_of : Store → List S) (old new : Progress Store) (s : S) (node : Node) (estimate : Option ℕ) (rest : Rest) (max_states : ℕ) where
  -- the state and its node are appended, beside the state at this place, which has been expanded
  pub record Appends (place : ℕ) : Type 0 where
    pub other : Node
    pub there : slice_get old.nodes.items place ≡ Some other
    pub expanded : has_been_expanded other ≡ true
    pub room : length (states_of old.store) < max_states
    pub states : states_of new.store ≡ states_of old.store ++ s ∷ []
    pub nodes : new.nodes.items ≡ old.nodes.items ++ node ∷ []
    pub open_list : JoinsBy old.open_list new.open_list node.cost (length old.nodes.items) estimate
    pub bases : IsNoted old.bases new.bases (length old.nodes.items) rest.value

  -- the state and its node replace those at this place, which was never expanded
  pub record Replaces (place : ℕ) : Type 0 where
    pub other : Node
    pub there : slice_get old.nodes.items place ≡ Some other
    pub waits : has_been_expanded other ≡ false
    pub states : states_of new.store ≡ slice_set (states_of old.store) place s
    pub nodes : new.nodes.items ≡ slice_set old.nodes.items place node
    pub open_list : JoinsBy old.open_list new.open_list node.cost place estimate
    pub bases : IsNoted old.bases new.bases place rest.value

  -- the state at this place has the node now, and waits again if it was expanded
  pub record Improves (place : ℕ) : Type 0 where
    pub known : Node
    pub there : slice_get old.nodes.items place ≡ Some known
    pub states : states_of new.store ≡ states_of old.store
    pub nodes : new.nodes.items ≡ slice_set old.nodes.items place (record node { status = status_again known.status estimate })
    pub open_list : JoinsBy old.open_list new.open_list node.cost place estimate
    pub bases : new.bases ≡ old.bases

  -- the state, listed last already, has the node
  pub record IsCompleted (place : ℕ) : Type 0 where
    pub states : states_of new.store ≡ states_of old.store
    pub nodes : new.nodes.items ≡ old.nodes.items ++ node ∷ []
    pub open_list : JoinsBy old.open_list new.open_list node.cost place estimate
    pub bases : IsNoted old.bases new.bases place rest.value

  -- the state is listed with the node
  abbrev pub TakesPlace : Place → Type 0
  TakesPlace (New place) = IsCompleted place
  TakesPlace (Listed place) = Improves place
  TakesPlace (Alike place) = Replaces place ⊎ Appends place

-- the limit allows no more states, the state is not listed, and nothing has changed
pub record IsLeftOut {S Store : Type 0} (states_of : Store → List S) (old new : Progress Store) (s : S) (max_states : ℕ) : Type 0 where
  pub not_listed : ¬ Contains (states_of old.store) s
  pub full : length (states_of old.store) ≡ max_states
  pub store : states_of new.store ≡ states_of old.store
  pub nodes : new.nodes.items ≡ old.nodes.items
  pub open_list : new.open_list ≡ old.open_list
  pub bases : new.bases ≡ old.bases

-- The action's successor, or one of its class, is listed during the expansion of the state at this place.
pub record Reaches {S Store : Type 0} (t : System S ℕ) (class_of : S → S) (value : S → ℕ) (is_dead : S → Bool) (states_of : Store → List S) (old new : Progress Store) (i max_states : ℕ) (a : ℕ) (s : S) : Type 0 where
  pub expanding : IsExpanding t class_of value is_dead states_of new i
  pub within : length (states_of new.store) ≤ max_states
  pub continues : Continues class_of (nodes_in states_of old) (nodes_in states_of new) i
  pub listed : IsListed t class_of (nodes_in states_of new) i a s
  pub noted : noted_at new.bases i ≡ noted_at old.bases i

-- The limit allows no more states, and nothing has changed.
pub record IsFull {S Store : Type 0} (t : System S ℕ) (value : S → ℕ) (is_dead : S → Bool) (states_of : Store → List S) (old new : Progress Store) (max_states : ℕ) : Type 0 where
  pub more : AreMoreReachable t value is_dead max_states
  pub full : length (states_of old.store) ≡ max_states
  pub store : states_of new.store ≡ states_of old.store
  pub nodes : new.nodes.items ≡ old.nodes.items
  pub open_list : new.open_list ≡ old.open_list
  pub bases : new.bases ≡ old.bases

-- The expansion is over.
pub record Expands {S Store : Type 0} (t : System S ℕ) (class_of : S → S) (value : S → ℕ) (is_dead : S → Bool) (states_of : Store → List S) (old new : Progress Store) (max_states : ℕ) : Type 0 where
  pub search : IsSearch t class_of value is_dead states_of new
  pub are_open : AreClosed t class_of (nodes_in states_of new)
  pub within : length (states_of new.store) ≤ max_states
  pub less : work_left max_states (nodes_in states_of new) < work_left max_states (nodes_in states_of old)

-- how much is left to do: each turn takes something of it, since it expands a state, or changes a value
abbrev pub turns_left : {S R : Type 0} → (most : ℕ) → List (Found S) → Buffers R → ℕ
turns_left most nodes buffers = work_left most nodes * 4294967296 + buffers.asks

-- The value of the state whose turn it was is raised, or it is dead.
pub record Defers {S Store : Type 0} (t : System S ℕ) (class_of : S → S) (value : S → ℕ) (is_dead : S → Bool) (states_of : Store → List S) (old new : Progress Store) : Type 0 where
  pub search : IsSearch t class_of value is_dead states_of new
  pub are_open : AreClosed t class_of (nodes_in states_of new)
  pub work : (most : ℕ) → work_left most (nodes_in states_of new) ≡ work_left most (nodes_in states_of old)

-- The turn of a state is over.
pub record TurnsOver {S Store R : Type 0} (t : System S ℕ) (class_of : S → S) (value : S → ℕ) (is_dead : S → Bool) (states_of : Store → List S) (old new : Progress Store) (before after : Buffers R) (max_states : ℕ) : Type 0 where
  pub search : IsSearch t class_of value is_dead states_of new
  pub are_open : AreClosed t class_of (nodes_in states_of new)
  pub within : length (states_of new.store) ≤ max_states
  pub less : turns_left max_states (nodes_in states_of new) after < turns_left max_states (nodes_in states_of old) before

-- the buffers hold states of this width
pub record AreWide {R : Type 0} (width : ℕ) (buffers : Buffers R) : Type 0 where
  pub state : length (bits_of buffers.state) ≡ width
  pub next : length (bits_of buffers.next) ≡ width
