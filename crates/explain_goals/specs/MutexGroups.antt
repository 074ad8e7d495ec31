-- Potential functions that count the true atoms of a group.
use Rattle.std.specs.Prelude.{◌≡◌, ◌≤◌, ◌⊎◌, ℕ, true, List, length, slice_get, Some, pos, negsuc, ◌≤ℤ◌}
use Rattle.std.specs.FinSet.{contains}
use Rattle.model.specs.Task.{Task, Atom}
use Rattle.model.specs.Meaning.{State, initial_state}
use Rattle.lower_bounds.specs.PotentialFunctions.{PotentialFunction, weight, value_of_state}
use Rattle.lower_bounds.specs.FairPotentials.{AreDeadFair}

-- it is at most 2 minus the number of true atoms of which each has the weight -1
pub record IsCounter (count : ℕ) (p : PotentialFunction) : Type 0 where
  pub constant : p.constant ≡ pos 2
  pub width : length p.weights ≡ count
  pub weights : (number : ℕ) → weight p.weights number ≤ℤ pos 0

-- the atom has a number, with the weight -1
pub record IsCounted (atoms : List Atom) (p : PotentialFunction) (a : Atom) : Type 0 where
  pub number : ℕ
  pub named : slice_get atoms number ≡ Some a
  pub counts : weight p.weights number ≡ negsuc 0

abbrev pub AreCounted : List Atom → PotentialFunction → State → Type 0
AreCounted atoms p group = (a : Atom) → contains group a ≡ true → IsCounted atoms p a

-- no instance makes the value fall, and the initial state has a value of at least 1
pub record StaysAboveZero (t : Task) (atoms : List Atom) (p : PotentialFunction) : Type 0 where
  pub fair : AreDeadFair t atoms p
  pub initial : 1 ≤ value_of_state atoms p (initial_state t)

-- the new set has no others than the old one and the atom with this number
abbrev pub IsAdded : List Atom → ℕ → (old new : State) → Type 0
IsAdded atoms number old new = (a : Atom) → contains new a ≡ true → (contains old a ≡ true) ⊎ (slice_get atoms number ≡ Some a)
