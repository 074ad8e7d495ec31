-- The purpose of fair landmark functions: their values are lower bounds of the remaining cost in every state with the initial static
-- atoms, not only in the one for which they were found. And of dead-fair ones: a state whose value is not 0 is a dead end.
use Rattle.std.specs.Prelude.{◌≡◌, ℕ, nat_lt, Bool, ◌&&◌, IsTrue, List, All, Contains, length, Some}
use Rattle.std.specs.List.{list_all}
use Rattle.model.specs.Task.{Atom, Task, Instance}
use Rattle.model.specs.Runs.{run}
use Rattle.model.specs.Meaning.{State, meets_goal, system_of}
use Rattle.model.specs.Fluents.{HasInitialStatics}
use Rattle.model.specs.Grounding.{bits_of_state}
use Rattle.model.specs.NumberedLiterals.{literals_of_goal}
use Rattle.lower_bounds.specs.PotentialLaws.{AreNumberable}
use Rattle.lower_bounds.specs.TableFunctions.{Table, TableFunction, has_numbered_fluents}
use Rattle.lower_bounds.specs.FairTables as fair_tables
use Rattle.lower_bounds.specs.TableLaws.{AreAllNumbered, are_over, IsFairValueAt, AreLowerBounds, AreDeadEnds}
use Rattle.lower_bounds.specs.LandmarkFunctions.{Zone, has_any, is_whole, Landmark, LandmarkFunction, value}
use Rattle.lower_bounds.specs.LandmarkLines.{NumberedLandmarks, functions_of, keep_limits}
use Rattle.lower_bounds.specs.FairLandmarks.{cut_of, AreFairAt, IsFair, IsDeadFair, AreClosed}

-- the zone is over this many atoms
abbrev pub is_zone_over : ℕ → Zone → Bool
is_zone_over count zone = list_all (λ number. nat_lt number count) zone.atoms && list_all (λ number. nat_lt number count) zone.negated

-- the zones and the scopes are over this many atoms
pub record IsOver (count : ℕ) (h : LandmarkFunction) : Type 0 where
  pub zones : IsTrue (list_all (λ (landmark : Landmark). is_zone_over count landmark.zone) h.landmarks)
  pub scopes : IsTrue (are_over count h.tables)

-- A zone with a literal of the goal is a landmark: from each state in which it is whole, every list of instances that leads to a goal
-- state, of whatever length, has one of its cut.
abbrev pub ZonesAreLandmarks : Type 0
ZonesAreLandmarks =
    (task : Task) (atoms : List Atom) (zone : Zone) → AreAllNumbered task atoms → IsTrue (is_zone_over (length atoms) zone) → IsTrue (has_any zone (literals_of_goal task atoms))
    → (state end : State) (plan : List Instance) → HasInitialStatics task state → IsTrue (has_numbered_fluents task atoms state) → IsTrue (is_whole (bits_of_state atoms state) zone)
    → run (system_of task) state plan ≡ Some end → IsTrue (meets_goal task end)
    → (i : Instance) × Contains plan i × Contains (cut_of task atoms zone) i

-- fair landmark functions are a kind of fair values
abbrev pub LandmarksAreFairValues : Type 0
LandmarksAreFairValues =
    (allowance : Instance → ℕ) (task : Task) (atoms : List Atom) (h : LandmarkFunction) → AreNumberable task atoms → IsOver (length atoms) h → AreClosed task atoms h.tables
    → AreFairAt allowance task atoms h → IsFairValueAt allowance task atoms (value h)

-- so across an instance the value falls by at most its cost, in goal states it is 0, and it is a lower bound
abbrev pub FairOnesAreLowerBounds : Type 0
FairOnesAreLowerBounds =
    (task : Task) (atoms : List Atom) (h : LandmarkFunction) → AreAllNumbered task atoms → IsOver (length atoms) h → AreClosed task atoms h.tables
    → IsFair task atoms h → AreLowerBounds task atoms (value h)

-- a state with a value that is not 0 is a dead end, and leads only to such states
abbrev pub DeadFairOnesReportDeadEnds : Type 0
DeadFairOnesReportDeadEnds =
    (task : Task) (atoms : List Atom) (h : LandmarkFunction) → AreAllNumbered task atoms → IsOver (length atoms) h → AreClosed task atoms h.tables
    → IsDeadFair task atoms h → AreDeadEnds task atoms (value h)

-- what a text may have is over the atoms that it may have it for
abbrev pub KeptOnesAreOver : Type 0
KeptOnesAreOver =
    (count : ℕ) (tables : List Table) (l : NumberedLandmarks) → IsTrue (keep_limits count l) → IsTrue (are_over count tables) → All (IsOver count) (functions_of tables l)

-- the tables of a fair table function are closed
abbrev pub FairTablesAreClosed : Type 0
FairTablesAreClosed = (task : Task) (atoms : List Atom) (t : TableFunction) → fair_tables.IsFair task atoms t → AreClosed task atoms t.tables
