-- What the marks of packed states say by several values and landmark values, and that it is so.
use Rattle.std.specs.Prelude.{◌≡◌, ℕ, ◌<◌, ◌≤◌, ⊤, nat_le, true, Bool, List, [], Some, get_or, length, slice_get}
use Rattle.std.specs.List.{list_all}
use Rattle.model.specs.Task.{Atom, Task}
use Rattle.lower_bounds.specs.TableFunctions as tables
use Rattle.lower_bounds.specs.TableFunctions.{SeveralValues, Table, dead_ends_of, functions_of, greatest_value}
use Rattle.lower_bounds.specs.LandmarkFunctions.{LandmarkFunction, value}
use Rattle.lower_bounds.specs.LandmarkLines.{NumberedLandmarks, Share, keep_limits}
use Rattle.lower_bounds.specs.FairLandmarks.{IsFair, IsDeadFair}
use Rattle.landmarks.specs.declared.testing.Fairness.{Fairness}
use Rattle.landmarks.specs.Fairness.{function_over, is_dead_fair}
use Rattle.certificate_definitions.specs.Evidence.{Basis, LineMark, of_all, landmark, expanded, cut, dead}

-- the landmark value with this number, beside these tables
abbrev pub function_at : List Table → NumberedLandmarks → ℕ → LandmarkFunction
function_at those l number = function_over those l.zones (get_or l.values number [])

-- the value of a packed state by this basis
abbrev pub value_by : SeveralValues → NumberedLandmarks → Basis → List Bool → ℕ
value_by s l of_all = greatest_value (functions_of s)
value_by s l (landmark number) = value (function_at s.tables l number)

-- there is this basis
abbrev pub IsThere : NumberedLandmarks → Basis → Type 0
IsThere l of_all = ⊤
IsThere l (landmark number) = number < length l.values

-- What the mark says of the packed state is so: a cut has the value by its basis, in the range of a certificate's numbers, and a dead end
-- is shown by its basis.
abbrev pub IsShown : SeveralValues → NumberedLandmarks → List Bool → LineMark → Type 0
IsShown s l bits expanded = ⊤
IsShown s l bits (cut basis rest) = IsThere l basis × (rest ≡ value_by s l basis bits) × (rest < 1152921504606846976)
IsShown s l bits (dead of_all) = tables.is_dead_by (dead_ends_of s) bits ≡ true
IsShown s l bits (dead (landmark number)) = (number < length l.values) × (1 ≤ value_by s l (landmark number) bits)

-- the landmark value that a dead end rests on is dead-fair
abbrev pub IsFairMark : Task → List Atom → List Table → NumberedLandmarks → LineMark → Type 0
IsFairMark task atoms those l expanded = ⊤
IsFairMark task atoms those l (cut basis rest) = ⊤
IsFairMark task atoms those l (dead of_all) = ⊤
IsFairMark task atoms those l (dead (landmark number)) = IsDeadFair task atoms (function_at those l number)

-- what was found of it says so
abbrev pub IsDeadFairAt : List Fairness → LineMark → Type 0
IsDeadFairAt found expanded = ⊤
IsDeadFairAt found (cut basis rest) = ⊤
IsDeadFairAt found (dead of_all) = ⊤
IsDeadFairAt found (dead (landmark number)) = (f : Fairness) × (slice_get found number ≡ Some f) × (is_dead_fair f ≡ true)

-- the value has so few zones that its line in a certificate's text is not too long, whatever their numbers and weights are
abbrev pub has_few_zones : List Share → Bool
has_few_zones shares = nat_le (length shares) 524288

-- The landmark values are within the limits of a certificate's text, and each is fair beside the tables. What these marks say of these
-- packed states, in order, is so, and dead ends rest on dead-fair values.
pub record AreSupported (task : Task) (atoms : List Atom) (s : SeveralValues) (l : NumberedLandmarks) (states : List (List Bool)) (marks : List LineMark) : Type 0 where
  pub limits : keep_limits (length atoms) l ≡ true
  pub few_zones : list_all has_few_zones l.values ≡ true
  pub fair : (number : ℕ) → number < length l.values → IsFair task atoms (function_at s.tables l number)
  pub shown : (k : ℕ) (bits : List Bool) (mark : LineMark) → slice_get states k ≡ Some bits → slice_get marks k ≡ Some mark → IsShown s l bits mark
  pub dead_fair : (k : ℕ) (mark : LineMark) → slice_get marks k ≡ Some mark → IsFairMark task atoms s.tables l mark
