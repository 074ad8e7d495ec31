-- A search that is under way: what it keeps true between two expansions, and where it halts.
use Rattle.std.specs.Prelude.{◌≡◌, ℕ, ◌≤◌, Bool, List, length}
use Rattle.model.specs.Runs.{System}
use Rattle.search.specs.declared.best.Outcome.{Outcome}
use Rattle.search.specs.declared.best.Outcome.TheVariants.{Found, Exhausted, States}
use Rattle.search.specs.declared.nodes.FoundStates.{FoundStates}
use Rattle.search.specs.declared.nodes.Node.{Node}
use Rattle.search.specs.declared.under_way.Halt.{Halt}
use Rattle.search.specs.declared.under_way.Halt.TheVariants.{Ended, Paused}
use Rattle.search.specs.declared.under_way.Search.{Search}
use Rattle.search.specs.declared.under_way.Stop.{Stop}
use Rattle.search.specs.declared.under_way.Stop.TheVariants as stop
use Rattle.search.specs.Nodes.{AreClosed, found_of}
use Rattle.search.specs.OnDemand.{HoldsBy}
use Rattle.search.specs.Outcome.{AreEstimates, HasEstimates, IsAtLimit, IsTrueOutcome}
use Rattle.search.specs.Progress.{AreWide, HoldsIn, IsSearch, nodes_in}

-- the found states
abbrev pub store_in : {Store R : Type 0} → Search Store R → Store
store_in search = search.progress.store

-- how each of them was reached
abbrev pub nodes_of : {Store R : Type 0} → Search Store R → List Node
nodes_of search = search.progress.nodes.items

module _ {S Store R : Type 0} (t : System S ℕ) (class_of : S → S) (value : S → ℕ) (is_dead : S → Bool) (fits : R → Type 0) (states_of : Store → List S) (classes_of : Store → S → S)
    (width_of : Store → ℕ) (width : ℕ) where
  -- between two expansions of a search by these classes, of states of this width, within the limit
  pub record IsUnderWay (max_states : ℕ) (s : Search Store R) : Type 0 where
    pub search : IsSearch t class_of value is_dead states_of s.progress
    pub are_open : AreClosed t class_of (nodes_in states_of s.progress)
    pub within : length (states_of (store_in s)) ≤ max_states
    pub store_classes : classes_of (store_in s) ≡ class_of
    pub store_width : width_of (store_in s) ≡ width
    pub buffers : AreWide width s.buffers
    pub scratch : fits s.buffers.scratch

  -- it ended with a true outcome that tells the estimates of the cuts, or paused with at least `pause` states listed
  abbrev pub IsTrueHalt : ℕ → ℕ → Halt Store R → Type 0
  IsTrueHalt pause max_states (Ended outcome) = IsTrueOutcome t class_of value is_dead states_of max_states outcome × HasEstimates value is_dead states_of outcome
  IsTrueHalt pause max_states (Paused search) = IsUnderWay max_states search × (pause ≤ length (states_of (store_in search)))

-- Stopped at a pause, the search shows what it would show at a limit of as many states as are listed, with the estimates of the cuts; or no
-- state waits, and its outcome is true.
abbrev pub IsTrueStop : {S Store : Type 0} → System S ℕ → (S → S) → (S → ℕ) → (S → Bool) → (Store → List S) → ℕ → Stop Store → Type 0
IsTrueStop t class_of value is_dead states_of max_states (stop.Ended outcome) =
    IsTrueOutcome t class_of value is_dead states_of max_states outcome × HasEstimates value is_dead states_of outcome
IsTrueStop t class_of value is_dead states_of max_states (stop.Waiting least found) =
    (length (states_of found.store) ≤ max_states)
    × IsAtLimit t class_of value is_dead (length (states_of found.store)) least (states_of found.store) found.nodes.items
    × AreEstimates value is_dead (states_of found.store) found.nodes.items found.estimates.items

-- the found states that an outcome tells
abbrev pub found_in : {Store : Type 0} → Outcome Store → FoundStates Store
found_in (Found steps cost found) = found
found_in (Exhausted found) = found
found_in (States least found) = found

module _ {S Store R : Type 0} (t : System S ℕ) (class_of : S → S) (estimate : S → ℕ) (reported : S → Bool) (answers : Bool) (fits : R → Type 0) (states_of : Store → List S) (classes_of : Store → S → S)
    (width_of : Store → ℕ) (width : ℕ) where
  -- the search is under way by the values of its states: the guide's, or greater ones that were kept
  abbrev pub IsUnderWayBy : ℕ → Search Store R → Type 0
  IsUnderWayBy max_states search =
      HoldsIn t estimate reported answers states_of search.progress
      (λ value is_dead. IsUnderWay t class_of value is_dead fits states_of classes_of width_of width max_states search)

  -- it ended with an outcome that is true by these values, or paused
  abbrev pub IsTrueHaltBy : ℕ → ℕ → Halt Store R → Type 0
  IsTrueHaltBy pause max_states (Ended outcome) =
      HoldsBy t estimate reported answers (found_of (states_of (found_in outcome).store) (found_in outcome).nodes.items) (found_in outcome).bases
      (λ value is_dead. IsTrueOutcome t class_of value is_dead states_of max_states outcome × HasEstimates value is_dead states_of outcome)
  IsTrueHaltBy pause max_states (Paused search) = IsUnderWayBy max_states search × (pause ≤ length (states_of (store_in search)))

module _ {S Store : Type 0} (t : System S ℕ) (class_of : S → S) (estimate : S → ℕ) (reported : S → Bool) (answers : Bool) (states_of : Store → List S) where
  -- it was stopped, and shows what `IsTrueStop` says by these values
  abbrev pub IsTrueStopBy : ℕ → Stop Store → Type 0
  IsTrueStopBy max_states (stop.Ended outcome) =
      HoldsBy t estimate reported answers (found_of (states_of (found_in outcome).store) (found_in outcome).nodes.items) (found_in outcome).bases
      (λ value is_dead. IsTrueStop t class_of value is_dead states_of max_states (stop.Ended outcome))
  IsTrueStopBy max_states (stop.Waiting least found) =
      HoldsBy t estimate reported answers (found_of (states_of found.store) found.nodes.items) found.bases
      (λ value is_dead. IsTrueStop t class_of value is_dead states_of max_states (stop.Waiting least found))
