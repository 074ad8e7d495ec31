-- How far a search of the ground task by an estimate and a test for dead ends came, of as many states as may be listed.
use Rattle.std.specs.Prelude.{ℕ, ◌≤◌, Bool, List, length}
use Rattle.grounding.specs.Ground.{task_in, atoms_in}
use Rattle.search_spaces.specs.GroundListing.{listed_class, listed_states, listed_width}
use Rattle.search_spaces.specs.declared.ground_listing.GroundListing.{GroundListing}
use Rattle.search.specs.Nodes.{AreClosed}
use Rattle.search.specs.Estimates.{IsAdmissible}
use Rattle.search.specs.DeadEnds.{ReportsDeadEnds}
use Rattle.search.specs.Progress.{IsSearch, nodes_in}
use Rattle.search.specs.UnderWay as under_way
use Rattle.search.specs.declared.under_way.Halt.{Halt}
use Rattle.search.specs.declared.under_way.Search.{Search}
use Rattle.solver.specs.declared.searched.Stretch.{Stretch}
use Rattle.solver.specs.declared.searched.Stretch.TheVariants.{Ended, Paused}
use Rattle.solver.specs.declared.parts.Part.{Part}
use Rattle.solver.specs.declared.parts.Part.TheVariants as part
use Rattle.solver.specs.declared.parts.Parts.{Parts}
use Rattle.solver.specs.declared.parts.Parts.TheVariants.{ByTables, ByGuide}
use Rattle.solver.specs.declared.limits.Limits.{Limits}
use Rattle.search_spaces.specs.SearchSpace.{class_in, ground_in, system_of}
use Rattle.search_spaces.specs.declared.search_space.SearchSpace.{SearchSpace}
use Rattle.solver.specs.Guided.{IsEnding}
use Rattle.solver.specs.Solver.{IsAnswerWithin}

module _ {R : Type 0} (space : SearchSpace) (estimate : List Bool → ℕ) (is_dead : List Bool → Bool) (fits : R → Type 0) where
  -- between two turns
  abbrev pub IsUnderWay : ℕ → Search GroundListing R → Type 0
  IsUnderWay max_states s =
      under_way.IsUnderWay (system_of space) (class_in space) estimate is_dead fits listed_states listed_class listed_width (length (atoms_in (ground_in space))) max_states s

  -- to its end, or to a pause
  abbrev pub IsStretch : (pause : ℕ) → Limits → Stretch R → Type 0
  IsStretch pause limits (Ended ending) = IsEnding space estimate is_dead limits ending
  IsStretch pause limits (Paused s) = IsUnderWay limits.states s × (pause ≤ length (listed_states (under_way.store_in s)))

-- what such a search keeps true of what it found: the successors of each expanded state are found, and each state that waits is in the open list
abbrev pub IsBetweenTurns : {R : Type 0} (space : SearchSpace) (estimate : List Bool → ℕ) (is_dead : List Bool → Bool) → Search GroundListing R → Type 0
IsBetweenTurns space estimate is_dead s =
    IsSearch (system_of space) (class_in space) estimate is_dead listed_states s.progress
    × AreClosed (system_of space) (class_in space) (nodes_in listed_states s.progress)

module _ {R : Type 0} (space : SearchSpace) (estimate : List Bool → ℕ) (reported : List Bool → Bool) (answers : Bool) (fits : R → Type 0) where
  -- the same of a search that asks for values, between two turns
  abbrev pub IsUnderWayBy : ℕ → Search GroundListing R → Type 0
  IsUnderWayBy max_states s =
      under_way.IsUnderWayBy (system_of space) (class_in space) estimate reported answers fits listed_states listed_class listed_width (length (atoms_in (ground_in space))) max_states s

  -- and where it halts
  abbrev pub IsHaltBy : (pause max_states : ℕ) → Halt GroundListing R → Type 0
  IsHaltBy = under_way.IsTrueHaltBy (system_of space) (class_in space) estimate reported answers fits listed_states listed_class listed_width (length (atoms_in (ground_in space)))

-- The search goes by some admissible estimate and some test for dead ends, and reports no others.
pub record IsSound {R : Type 0} (space : SearchSpace) (s : Search GroundListing R) : Type 0 where
  pub value : List Bool → ℕ
  pub is_dead : List Bool → Bool
  pub between : IsBetweenTurns space value is_dead s
  pub admissible : IsAdmissible (system_of space) value
  pub reports : ReportsDeadEnds (system_of space) is_dead

-- an answer by tables, or what the search came to
abbrev pub IsTrueEnd : (space : SearchSpace) (estimate : List Bool → ℕ) (is_dead : List Bool → Bool) → Limits → Parts → Type 0
IsTrueEnd space estimate is_dead limits (ByTables answer) = IsAnswerWithin (task_in (ground_in space)) limits answer
IsTrueEnd space estimate is_dead limits (ByGuide ending) = IsEnding space estimate is_dead limits ending

-- such an end, or a search to go on with
abbrev pub IsTruePart : {R : Type 0} (space : SearchSpace) (estimate : List Bool → ℕ) (is_dead : List Bool → Bool) (fits : R → Type 0) → Limits → Part R → Type 0
IsTruePart space estimate is_dead fits limits (part.Ended end) = IsTrueEnd space estimate is_dead limits end
IsTruePart space estimate is_dead fits limits (part.Promising s) = IsUnderWay space estimate is_dead fits limits.states s
IsTruePart space estimate is_dead fits limits (part.InVain s) = IsUnderWay space estimate is_dead fits limits.states s
