-- What a search that asks for landmark values came to, and its certificate.
use Rattle.std.specs.Prelude.{◌≡◌, ℕ, ◌<◌, ◌≤◌, ⊤, Bool, false, IsTrue, List, Some, is_some, length, slice_get}
use Rattle.model.specs.Task.{Atom}
use Rattle.model.specs.Claims.{Claim}
use Rattle.lower_bounds.specs.TableFunctions.{SeveralValues, dead_ends_of, functions_of, greatest_value, is_dead_by}
use Rattle.lower_bounds.specs.LandmarkLines.{NumberedLandmarks}
use Rattle.landmark_zones.specs.Landmarks.{landmarks_of}
use Rattle.symmetries_definitions.specs.Exchanges.{Exchange}
use Rattle.certificate_definitions.specs.Certificates.{Certificate, four}
use Rattle.certificate.specs.ListedSets.{Marked, lines_with}
use Rattle.grounding.specs.Ground.{task_in, atoms_in}
use Rattle.search_spaces.specs.GroundListing.{listed_states}
use Rattle.search_spaces.specs.SearchSpace.{class_in, ground_in, system_of}
use Rattle.search_spaces.specs.declared.ground_listing.GroundListing.{GroundListing}
use Rattle.search_spaces.specs.declared.search_space.SearchSpace.{SearchSpace}
use Rattle.search.specs.DeadEnds.{ReportsDeadEnds}
use Rattle.search.specs.Estimates.{IsAdmissible}
use Rattle.search.specs.UnderWay.{IsTrueStop}
use Rattle.search.specs.declared.nodes.FoundStates.{FoundStates}
use Rattle.search.specs.declared.under_way.Stop.{Stop}
use Rattle.search.specs.declared.under_way.Stop.TheVariants as stop
use Rattle.line_evidence.specs.Roles.{HaveRolesOf, marks_in}
use Rattle.line_evidence.specs.Shown.{AreSupported, IsShown}
use Rattle.solver.specs.Guided.{found_in}
use Rattle.solver.specs.Stretches.{IsTrueEnd}
use Rattle.solver.specs.Versions.{number_of}
use Rattle.solver.specs.declared.limits.Limits.{Limits}
use Rattle.solver.specs.declared.asking.Asked.{Asked}
use Rattle.solver.specs.declared.fair_tables.TablesEnding.{TablesEnding}
use Rattle.solver.specs.declared.fair_tables.TablesEnding.TheVariants as ending

-- the states that a stopped search found
abbrev pub found_at : Stop GroundListing → FoundStates GroundListing
found_at (stop.Ended outcome) = found_in outcome
found_at (stop.Waiting least found) = found

-- it was stopped before its end only where its time is limited
abbrev pub IsStoppedWithin : Limits → Stop GroundListing → Type 0
IsStoppedWithin limits (stop.Ended outcome) = ⊤
IsStoppedWithin limits (stop.Waiting least found) = IsTrue (is_some limits.seconds)

-- A search of the ground task that asks for landmark values, and else goes by these values of all states, came to this. It stands by some
-- admissible value, which is at least that of all states, and by some dead ends. The marks of its found states say what these say, and
-- what they rest on was tested.
pub record IsAsked (space : SearchSpace) (s : SeveralValues) (limits : Limits) (asked : Asked) : Type 0 where
  pub value : List Bool → ℕ
  pub is_dead : List Bool → Bool
  pub stop : IsTrueStop (system_of space) (class_in space) value is_dead listed_states limits.states asked.stop
  pub within : IsStoppedWithin limits asked.stop
  pub admissible : IsAdmissible (system_of space) value
  pub reports : ReportsDeadEnds (system_of space) is_dead
  pub no_lower : (k : ℕ) (bits : List Bool) → slice_get (listed_states (found_at asked.stop).store) k ≡ Some bits → is_dead bits ≡ false → greatest_value (functions_of s) bits ≤ value bits
  pub alive : (k : ℕ) (bits : List Bool) → slice_get (listed_states (found_at asked.stop).store) k ≡ Some bits → is_dead bits ≡ false → is_dead_by (dead_ends_of s) bits ≡ false
  pub roles : HaveRolesOf value is_dead (listed_states (found_at asked.stop).store) (found_at asked.stop).nodes.items asked.marked.marks.items
  pub supported : AreSupported (task_in (ground_in space)) (atoms_in (ground_in space)) s (landmarks_of asked.marked.landmarks) (listed_states (found_at asked.stop).store) (marks_in asked.marked.marks.items)

-- the certificate that lists these states with these marks, by these values of all states and these landmark values
abbrev pub asked_certificate : Claim → List Exchange → List Atom → SeveralValues → NumberedLandmarks → List Marked → List (List Bool) → Certificate
asked_certificate claim exchanges atoms s landmarks marks states = record {
  version = four;
  claim = claim;
  exchanges = exchanges;
  atoms = atoms;
  values = s.values;
  dead_ends = s.dead_ends;
  tables = s.tables;
  landmarks = landmarks;
  lines = lines_with marks states;
}

-- A certificate of version 4 may have these lines: each state is of this width and has one mark; each cost and each cut is in the range
-- of a certificate's numbers; and there is what each rests on.
pub record AreLines (width : ℕ) (s : SeveralValues) (landmarks : NumberedLandmarks) (marks : List Marked) (states : List (List Bool)) : Type 0 where
  pub one_for_each : length marks ≡ length states
  pub few : length states ≤ 16777216
  pub wide : (k : ℕ) (bits : List Bool) → slice_get states k ≡ Some bits → length bits ≡ width
  pub cheap : (k : ℕ) (m : Marked) → slice_get marks k ≡ Some m → m.cost < 1152921504606846976
  pub shown : (k : ℕ) (bits : List Bool) (m : Marked) → slice_get states k ≡ Some bits → slice_get marks k ≡ Some m → IsShown s landmarks bits m.mark

-- how a search by these values ended, with landmark values or without
abbrev pub IsTablesEnding : SearchSpace → SeveralValues → Limits → TablesEnding → Type 0
IsTablesEnding space s limits (ending.InParts parts) = IsTrueEnd space (greatest_value (functions_of s)) (is_dead_by (dead_ends_of s)) limits parts
IsTablesEnding space s limits (ending.Asked asked) = (4 ≤ number_of limits.version) × IsAsked space s limits asked
