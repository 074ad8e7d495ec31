-- What is known of a search that asked for values, where it stopped.
use Rattle.std.proofs.Common.{◌≡◌, ◌∙◌, ℕ, zero, suc, ◌≤◌, Bool, false, List, [], ◌∷◌, length, Some, sym, ap, arith}
use Rattle.std.specs.Prelude.{slice_get}
use Rattle.std.proofs.lemmas.Option.{same_Some, slice_get_within}
use Rattle.model.specs.Claims.{Claim, bound}
use Rattle.model.specs.NumberedAtoms.{numbered_atoms}
use Rattle.model.specs.Runs.{System}
use Rattle.packed_state.specs.Pool.{rows_in}
use Rattle.packed_state.specs.PooledStore.{rows_of}
use Rattle.packed_state.specs.Store.{sets_in}
use Rattle.packed_state.specs.Words.{bits_in}
use Rattle.packed_state.proofs.PackedLemmas.{length-bits}
use Rattle.grounding.specs.Ground.{task_in, atoms_in}
use Rattle.lower_bounds.specs.TableFunctions.{SeveralValues, dead_ends_of, functions_of, greatest_value, is_dead_by}
use Rattle.landmark_zones.specs.Landmarks.{landmarks_of}
use Rattle.search_spaces.specs.GroundListing.{listed_states, listed_width}
use Rattle.search_spaces.specs.SearchSpace.{class_in, ground_in, system_of, IsSearchSpace}
use Rattle.search_spaces.specs.declared.ground_listing.GroundListing.{GroundListing}
use Rattle.search_spaces.specs.declared.ground_listing.GroundListing.TheVariants as listing
use Rattle.search_spaces.specs.declared.search_space.SearchSpace.{SearchSpace}
use Rattle.search.specs.Nodes.{found_of as found_nodes}
use Rattle.search.specs.OnDemand.{AreValued}
use Rattle.search.specs.Outcome.{AreFound}
use Rattle.search.specs.UnderWay.{IsTrueStop, IsTrueStopBy}
use Rattle.search.specs.declared.bases.Bases.{Bases}
use Rattle.search.specs.declared.best.Outcome.TheVariants.{Found as PlanFound, Exhausted, States}
use Rattle.search.specs.declared.nodes.Node.{Node}
use Rattle.search.specs.declared.under_way.Stop.{Stop}
use Rattle.search.specs.declared.under_way.Stop.TheVariants as stop
use Rattle.search.proofs.Linked.{get-found_of}
use Rattle.search.proofs.Valued.{no_lower}
use Rattle.line_evidence.specs.Roles.{CanBeMarked, HaveRolesOf, marks_in}
use Rattle.line_evidence.specs.Shown.{AreSupported}
use Rattle.line_evidence.specs.declared.marked.Marked.{Marked}
use Rattle.solver.specs.Asked.{IsAsked, IsStoppedWithin, found_at}
use Rattle.solver.specs.Guided.{found_in}
use Rattle.solver.specs.declared.limits.Limits.{Limits}
use Rattle.solver.proofs.AnswerLemmas.{estimates_of, found_of, found_width}
use Rattle.solver.proofs.FoundLines.{found_line, node_at}

-- ---- the values by which it stands

module _ (t : System (List Bool) ℕ) (estimate : List Bool → ℕ) (reported : List Bool → Bool) (answers : Bool) (states : List (List Bool)) (nodes : List Node) (bases : Bases) (value : List Bool → ℕ) (is_dead : List Bool → Bool)
    (valued : AreValued t estimate reported answers (found_nodes states nodes) bases value is_dead) (one_each : length nodes ≡ length states) where
  pub valued_no_lower : (k : ℕ) (bits : List Bool) → slice_get states k ≡ Some bits → is_dead bits ≡ false → estimate bits ≤ value bits
  valued_no_lower k bits at lives =
      let (node, there) = node_at nodes k (omega (arith, slice_get_within states k bits at, one_each)) in
      no_lower t estimate reported answers (found_nodes states nodes) bases value is_dead valued k (record { state = bits; node = node }) (get-found_of states nodes k bits node at there) lives

  pub valued_alive : (k : ℕ) (bits : List Bool) → slice_get states k ≡ Some bits → is_dead bits ≡ false → reported bits ≡ false
  valued_alive k bits at lives =
      let (node, there) = node_at nodes k (omega (arith, slice_get_within states k bits at, one_each)) in
      valued.alive k (record { state = bits; node = node }) (get-found_of states nodes k bits node at there) lives

-- ---- where it stopped

pub record AreStates (max_states : ℕ) (value : List Bool → ℕ) (is_dead : List Bool → Bool) (states : List (List Bool)) (nodes : List Node) (estimates : List ℕ) : Type 0 where
  pub one_each : length nodes ≡ length states
  pub few : length states ≤ max_states
  pub can_be_marked : CanBeMarked value is_dead states nodes estimates

pub stopped_states : (t : System (List Bool) ℕ) (class_of : List Bool → List Bool) (value : List Bool → ℕ) (is_dead : List Bool → Bool) (max_states : ℕ) (s : Stop GroundListing)
    → IsTrueStop t class_of value is_dead listed_states max_states s → AreStates max_states value is_dead (listed_states (found_at s).store) (found_at s).nodes.items (found_at s).estimates.items
stopped_states t class_of value is_dead max_states (stop.Ended outcome) (is, estimates) =
    let (claim, found) = found_of t class_of value is_dead max_states outcome is in
    record { one_each = found.one_for_each; few = found.within_limit; can_be_marked = record { marked = found.marked; estimated = estimates_of value is_dead outcome estimates } }
stopped_states t class_of value is_dead max_states (stop.Waiting least found) (within, limit, estimates) =
    record { one_each = limit.found.one_for_each; few = within; can_be_marked = record { marked = limit.found.marked; estimated = estimates } }

-- ---- the width of its listing

-- each set that rows hold has as many bits as the rows are wide
wide_sets : (width : ℕ) (rows : List (List ℕ)) (k : ℕ) (bits : List Bool) → slice_get (sets_in width rows) k ≡ Some bits → length bits ≡ width
unfolding sets_in
wide_sets width [] k bits at = absurd (cc)
wide_sets width (words ∷ rows) zero bits at = ap length (sym (same_Some (bits_in width words) bits at)) ∙ length-bits width words
wide_sets width (words ∷ rows) (suc k) bits at = wide_sets width rows k bits at

-- so each listed state is as wide as its listing
listed_wide : (store : GroundListing) (k : ℕ) (bits : List Bool) → slice_get (listed_states store) k ≡ Some bits → length bits ≡ listed_width store
listed_wide (listing.Alone own) k bits at = wide_sets own.0.width (rows_of own.0.pool) k bits at
listed_wide (listing.Orbits store) k bits at =
    let states = store.orbits.states in
    wide_sets states.width (rows_in states.stride states.words.items states.count) k bits at ∙ store.linked.rows_width

-- and that is as wide as the atoms are many: the initial state's class is listed
wide_found : (space : SearchSpace) (numbered : atoms_in (ground_in space) ≡ numbered_atoms (task_in (ground_in space)) []) (class_of : List Bool → List Bool) (value : List Bool → ℕ) (is_dead : List Bool → Bool)
    (claim : Claim) (most : ℕ) (store : GroundListing) (nodes : List Node) → AreFound (system_of space) class_of value is_dead claim most (listed_states store) nodes
    → listed_width store ≡ length (atoms_in (ground_in space))
wide_found space numbered class_of value is_dead claim most store nodes found =
    let (line, among, alike, cheap) = found.closed.initial_listed in
    let (k, bits, n, at_s, at_n, is) = found_line value is_dead (listed_states store) nodes line among in
    sym (listed_wide store k bits at_s) ∙ found_width (task_in (ground_in space)) (atoms_in (ground_in space)) numbered (listed_states store) nodes found k bits at_s

pub wide_by : (space : SearchSpace) → IsSearchSpace space → (estimate : List Bool → ℕ) (reported : List Bool → Bool) (answers : Bool) (limits : Limits) (where_to : Stop GroundListing)
    → IsTrueStopBy (system_of space) (class_in space) estimate reported answers listed_states limits.states where_to → listed_width (found_at where_to).store ≡ length (atoms_in (ground_in space))
wide_by space is estimate reported answers limits (stop.Ended outcome) by =
    let (claim, found) = found_of (system_of space) (class_in space) by.value by.is_dead limits.states outcome by.holds.0 in
    wide_found space is.atoms (class_in space) by.value by.is_dead claim limits.states (found_in outcome).store (found_in outcome).nodes.items found
wide_by space is estimate reported answers limits (stop.Waiting least found) by =
    wide_found space is.atoms (class_in space) by.value by.is_dead (bound least) (length (listed_states found.store)) found.store found.nodes.items by.holds.1.found

-- ---- what it comes to, with marks that say what it stands by, and that were tested

module _ (space : SearchSpace) (s : SeveralValues) (limits : Limits) (answers : Bool) (marked : Marked) where
  abbrev estimate : List Bool → ℕ
  estimate = greatest_value (functions_of s)

  abbrev reported : List Bool → Bool
  reported = is_dead_by (dead_ends_of s)

  abbrev HaveRoles : Stop GroundListing → Type 0
  HaveRoles where_to = (value : List Bool → ℕ) (is_dead : List Bool → Bool) → CanBeMarked value is_dead (listed_states (found_at where_to).store) (found_at where_to).nodes.items (found_at where_to).estimates.items
      → HaveRolesOf value is_dead (listed_states (found_at where_to).store) (found_at where_to).nodes.items marked.marks.items

  abbrev IsSupportedAt : Stop GroundListing → Type 0
  IsSupportedAt where_to = AreSupported (task_in (ground_in space)) (atoms_in (ground_in space)) s (landmarks_of marked.landmarks) (listed_states (found_at where_to).store) (marks_in marked.marks.items)

  module _ (where_to : Stop GroundListing) (value : List Bool → ℕ) (is_dead : List Bool → Bool) (is : IsTrueStop (system_of space) (class_in space) value is_dead listed_states limits.states where_to)
      (valued : AreValued (system_of space) estimate reported answers (found_nodes (listed_states (found_at where_to).store) (found_at where_to).nodes.items) (found_at where_to).bases value is_dead) where
    made : IsStoppedWithin limits where_to → HaveRoles where_to → IsSupportedAt where_to → IsAsked space s limits (record { stop = where_to; marked = marked })
    made within roles supported =
        let are = stopped_states (system_of space) (class_in space) value is_dead limits.states where_to is in
        record {
          value = value;
          is_dead = is_dead;
          stop = is;
          within = within;
          admissible = valued.admissible;
          reports = valued.dead_ends;
          no_lower = valued_no_lower (system_of space) estimate reported answers (listed_states (found_at where_to).store) (found_at where_to).nodes.items (found_at where_to).bases value is_dead valued are.one_each;
          alive = valued_alive (system_of space) estimate reported answers (listed_states (found_at where_to).store) (found_at where_to).nodes.items (found_at where_to).bases value is_dead valued are.one_each;
          roles = roles value is_dead are.can_be_marked;
          supported = supported;
        }

  pub asked_of : (where_to : Stop GroundListing) → IsTrueStopBy (system_of space) (class_in space) estimate reported answers listed_states limits.states where_to → IsStoppedWithin limits where_to → HaveRoles where_to → IsSupportedAt where_to
      → IsAsked space s limits (record { stop = where_to; marked = marked })
  asked_of (stop.Ended (PlanFound steps cost found)) by = made (stop.Ended (PlanFound steps cost found)) by.value by.is_dead by.holds by.valued
  asked_of (stop.Ended (Exhausted found)) by = made (stop.Ended (Exhausted found)) by.value by.is_dead by.holds by.valued
  asked_of (stop.Ended (States least found)) by = made (stop.Ended (States least found)) by.value by.is_dead by.holds by.valued
  asked_of (stop.Waiting least found) by = made (stop.Waiting least found) by.value by.is_dead by.holds by.valued

-- there is one node for each of its states, one estimate for each, and they are few
pub states_by : (space : SearchSpace) (estimate : List Bool → ℕ) (reported : List Bool → Bool) (answers : Bool) (limits : Limits) (where_to : Stop GroundListing)
    → IsTrueStopBy (system_of space) (class_in space) estimate reported answers listed_states limits.states where_to
    → (length (found_at where_to).nodes.items ≡ length (listed_states (found_at where_to).store)) × (length (found_at where_to).estimates.items ≡ length (found_at where_to).nodes.items) × (length (found_at where_to).nodes.items ≤ limits.states)
states_by space estimate reported answers limits (stop.Ended outcome) by =
    let are = stopped_states (system_of space) (class_in space) by.value by.is_dead limits.states (stop.Ended outcome) by.holds in
    (are.one_each, are.can_be_marked.estimated.0, omega (arith, are.one_each, are.few))
states_by space estimate reported answers limits (stop.Waiting least found) by =
    let are = stopped_states (system_of space) (class_in space) by.value by.is_dead limits.states (stop.Waiting least found) by.holds in
    (are.one_each, are.can_be_marked.estimated.0, omega (arith, are.one_each, are.few))
