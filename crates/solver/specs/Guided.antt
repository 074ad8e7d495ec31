-- What a search may go by, if its certificate is to have it, and what it came to.
use Rattle.std.specs.Prelude.{◌≡◌, ℕ, ◌≤◌, Bool, IsTrue, List, is_some, length, map}
use Rattle.search_spaces.specs.GroundListing.{listed_states}
use Rattle.search_spaces.specs.declared.ground_listing.GroundListing.{GroundListing}
use Rattle.grounding.specs.Ground.{task_in, atoms_in}
use Rattle.certificate.specs.CertificateParts.{listed_of}
use Rattle.certificate.specs.declared.states.Listed.{Listed}
use Rattle.model.specs.Grounding.{ground_system}
use Rattle.lower_bounds.specs.Settled.{initial_value}
use Rattle.search.specs.Estimates.{IsAdmissible}
use Rattle.search.specs.DeadEnds.{ReportsDeadEnds}
use Rattle.search.specs.Outcome as search
use Rattle.search.specs.Outcome.{AreEstimates, AreMarked, IsAtLimit, IsCut, IsTrueOutcome, is_marked_dead}
use Rattle.search.specs.declared.best.Outcome.{Outcome}
use Rattle.search.specs.declared.best.Outcome.TheVariants.{Found, Exhausted, States}
use Rattle.search.specs.declared.nodes.FoundStates.{FoundStates}
use Rattle.search.specs.declared.nodes.Node.{Node}
use Rattle.solver.specs.Guidance.{Guidance, CanBeWritten, AreFairBy, estimate_by, first_value, values_by, version_by}
use Rattle.solver.specs.declared.limits.Limits.{Limits}
use Rattle.solver.specs.declared.searched.Ending.{Ending}
use Rattle.solver.specs.declared.searched.Ending.TheVariants.{Complete, OutOfTime}
use Rattle.solver.specs.declared.searched.Halted.{Halted}
use Rattle.solver.specs.Improved.{AreSettledOrHigh, AreDeadSettledOrHigh}
use Rattle.search_spaces.specs.SearchSpace.{class_in, ground_in, exchanges_in, system_of}
use Rattle.search_spaces.specs.declared.search_space.SearchSpace.{SearchSpace}
use Rattle.certificate_definitions.specs.Certificates.{are_exchanges}
use Rattle.solver.specs.Listing.{mark_of_line}

-- A certificate of the ground task can have the guidance beside the exchanges, its values are fair, the potentials of the first and of
-- dead ends are settled or high by themselves, and the lower bound of the task's initial state is at least its first value.
pub record IsGuidanceFor (space : SearchSpace) (guidance : Guidance) : Type 0 where
  pub written : CanBeWritten (length (atoms_in (ground_in space))) guidance
  pub exchanges : IsTrue (are_exchanges (version_by guidance) (exchanges_in space))
  pub fair : AreFairBy (task_in (ground_in space)) (atoms_in (ground_in space)) guidance
  pub improved : AreSettledOrHigh (task_in (ground_in space)) (atoms_in (ground_in space)) (first_value guidance)
  pub dead_ends_improved : AreDeadSettledOrHigh (task_in (ground_in space)) (atoms_in (ground_in space)) (values_by guidance).dead_ends
  pub no_lower :
      initial_value (task_in (ground_in space)) (atoms_in (ground_in space)) (first_value guidance)
      ≤ estimate_by guidance (ground_system (task_in (ground_in space)) (atoms_in (ground_in space))).initial

-- the states that a search found
abbrev pub found_in : Outcome GroundListing → FoundStates GroundListing
found_in (Found steps cost found) = found
found_in (Exhausted found) = found
found_in (States least found) = found

-- these marks say of each found state, in order, what its line does
abbrev pub AreMarksOf : (List Bool → ℕ) → (List Bool → Bool) → FoundStates GroundListing → List Listed → Type 0
AreMarksOf estimate is_dead found marks = map listed_of marks ≡ map mark_of_line (search.lines_of estimate is_dead (listed_states found.store) found.nodes.items)

-- what is known of the found states where their marks are made
pub record CanBeMarked (estimate : List Bool → ℕ) (is_dead : List Bool → Bool) (found : FoundStates GroundListing) : Type 0 where
  pub one_for_each : length found.nodes.items ≡ length (listed_states found.store)
  pub marked : AreMarked is_dead (listed_states found.store) found.nodes.items
  pub estimates : AreEstimates estimate is_dead (listed_states found.store) found.nodes.items found.estimates.items

-- the mark says what the line does of each state that was reached so and has this estimate where it is a cut
abbrev pub IsMarkOf : Node → ℕ → Listed → Type 0
IsMarkOf node rest listed =
    (estimate : List Bool → ℕ) (is_dead : List Bool → Bool) (s : List Bool) → is_marked_dead node ≡ is_dead s → (IsCut is_dead s node → rest ≡ estimate s)
    → listed_of listed ≡ mark_of_line (search.line_of estimate is_dead s node)

-- A search of the ground task by an estimate and a test for dead ends came to this outcome, with these marks.
pub record IsSearched (space : SearchSpace) (estimate : List Bool → ℕ) (is_dead : List Bool → Bool) (max_states : ℕ) (outcome : Outcome GroundListing) (marks : List Listed) : Type 0 where
  pub outcome_is : IsTrueOutcome (system_of space) (class_in space) estimate is_dead listed_states max_states outcome
  pub marked : AreMarksOf estimate is_dead (found_in outcome) marks
  pub admissible : IsAdmissible (system_of space) estimate
  pub reports : ReportsDeadEnds (system_of space) is_dead

-- A search of the ground task was stopped at a pause. Its found states, with these marks, say what they would say at a limit of as many.
pub record IsHalted (space : SearchSpace) (estimate : List Bool → ℕ) (is_dead : List Bool → Bool) (max_states : ℕ) (halted : Halted) : Type 0 where
  pub within_limit : length (listed_states halted.states.store) ≤ max_states
  pub at_limit : IsAtLimit (system_of space) (class_in space) estimate is_dead (length (listed_states halted.states.store)) halted.bound (listed_states halted.states.store) halted.states.nodes.items
  pub marked : AreMarksOf estimate is_dead halted.states halted.marks.items

-- A search within these limits ended by itself, or since its time is over, which was limited.
abbrev pub IsEnding : SearchSpace → (List Bool → ℕ) → (List Bool → Bool) → Limits → Ending → Type 0
IsEnding space estimate is_dead limits (Complete searched) = IsSearched space estimate is_dead limits.states searched.outcome searched.marks.items
IsEnding space estimate is_dead limits (OutOfTime halted) = IsTrue (is_some limits.seconds) × IsHalted space estimate is_dead limits.states halted
