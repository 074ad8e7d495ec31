-- What the test of a value says.
use Rattle.std.specs.Prelude.{◌≡◌, ℕ, ◌<◌, Bool, true, false, List, get_or, slice_get, Option, None, Some, [], length, sum_by}
use Rattle.std.specs.List.{filter_map}
use Rattle.model.specs.Task.{Atom, Task, Instance}
use Rattle.model.specs.StaticallyFalse.{kept_instances}
use Rattle.model.specs.NumberedLiterals.{NumberedLiteral, literals_of_number}
use Rattle.model.specs.ConditionalChanges.{conditional_of_number}
use Rattle.lower_bounds.specs.TableFunctions.{Table, is_among}
use Rattle.lower_bounds.specs.FairTables.{is_asked}
use Rattle.lower_bounds.specs.LandmarkFunctions.{Zone, has_any, Landmark, LandmarkFunction}
use Rattle.lower_bounds.specs.FairLandmarks.{charge, IsFair, IsDeadFair}
use Rattle.lower_bounds.specs.LandmarkLines.{Share, NumberedLandmarks, landmark_of}
use Rattle.landmarks.specs.declared.testing.Fairness.{Fairness}
use Rattle.landmarks.specs.declared.testing.Fairness.TheVariants.{DeadFair, Fair, Unfair}

-- the landmark function of these shares, beside these tables
abbrev pub function_over : List Table → List Zone → List Share → LandmarkFunction
function_over tables zones shares = record { landmarks = filter_map (landmark_of zones) shares; tables = tables }

-- the landmark's zone has one of these literals
abbrev pub has_one : List NumberedLiteral → Landmark → Bool
has_one literals m = has_any m.zone literals

-- the numbers are those of the kept instances that these tables do not shut out
abbrev pub AreAsked : Task → List Atom → List Table → List ℕ → Type 0
AreAsked task atoms tables asked = (number : ℕ) (i : Instance) → slice_get (kept_instances task) number ≡ Some i → is_among asked number ≡ is_asked task atoms tables i

abbrev pub IsFairness : Task → List Atom → LandmarkFunction → Fairness → Type 0
IsFairness task atoms h DeadFair = IsDeadFair task atoms h
IsFairness task atoms h Fair = IsFair task atoms h × ¬ IsDeadFair task atoms h
IsFairness task atoms h Unfair = ¬ IsFair task atoms h

-- what was found of each of the values, beside these tables
pub record AreFairness (task : Task) (atoms : List Atom) (beside : List Table) (l : NumberedLandmarks) (found : List Fairness) : Type 0 where
  pub as_many : length found ≡ length l.values
  pub each : (k : ℕ) (f : Fairness) → slice_get found k ≡ Some f → IsFairness task atoms (function_over beside l.zones (get_or l.values k [])) f

-- ---- parts

-- what the instance with this number is charged
abbrev pub charged_at : Task → List Atom → List Landmark → ℕ → ℕ
charged_at task atoms found number = sum_by (charge (literals_of_number task atoms number) (conditional_of_number task atoms number)) found

abbrev pub is_unfair : Fairness → Bool
is_unfair DeadFair = false
is_unfair Fair = false
is_unfair Unfair = true

abbrev pub is_dead_fair : Fairness → Bool
is_dead_fair DeadFair = true
is_dead_fair Fair = false
is_dead_fair Unfair = false
