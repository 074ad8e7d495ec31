-- Landmark values that were tested, and what they show.
use Rattle.std.specs.Prelude.{◌≡◌, ℕ, nat_le, Bool, true, ◌&&◌, List, [], get_or, length}
use Rattle.model.specs.Task.{Atom, Task}
use Rattle.model.specs.Grounding.{ground_system}
use Rattle.search.specs.Estimates.{IsAdmissible}
use Rattle.search.specs.DeadEnds.{ReportsDeadEnds}
use Rattle.lower_bounds.specs.LandmarkFunctions.{LandmarkFunction, value}
use Rattle.lower_bounds.specs.LandmarkLines.{NumberedLandmarks, keep_limits}
use Rattle.lower_bounds.specs.FairLandmarks.{IsFair, IsDeadFair}
use Rattle.landmark_zones.specs.Landmarks.{landmarks_of}
use Rattle.landmarks.specs.Fairness.{function_over}
use Rattle.guides.specs.declared.tested.TestedValue.{TestedValue}

-- one value, within the limits of a certificate's text with this many atoms
pub record IsOne (atom_count : ℕ) (l : NumberedLandmarks) : Type 0 where
  pub one : length l.values ≡ 1
  pub limits : keep_limits atom_count l ≡ true

-- the first value, as a landmark function beside no tables
abbrev pub first_of : NumberedLandmarks → LandmarkFunction
first_of l = function_over [] l.zones (get_or l.values 0 [])

-- the value that it gives a packed state
abbrev pub value_by : TestedValue → List Bool → ℕ
value_by v = value (first_of (landmarks_of v.landmarks))

-- it shows that the packed state is a dead end
abbrev pub is_dead_by : TestedValue → List Bool → Bool
is_dead_by v bits = v.is_dead_fair && nat_le 1 (value_by v bits)

-- It is one fair value, and dead-fair where that is said of it. So it is a lower bound, and each state that it shows to be a dead end is one.
pub record IsTested (task : Task) (atoms : List Atom) (v : TestedValue) : Type 0 where
  pub one : IsOne (length atoms) (landmarks_of v.landmarks)
  pub fair : IsFair task atoms (first_of (landmarks_of v.landmarks))
  pub dead_fair : v.is_dead_fair ≡ true → IsDeadFair task atoms (first_of (landmarks_of v.landmarks))
  pub admissible : IsAdmissible (ground_system task atoms) (value_by v)
  pub dead_ends : ReportsDeadEnds (ground_system task atoms) (is_dead_by v)
