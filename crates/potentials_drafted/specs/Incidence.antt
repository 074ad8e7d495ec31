-- Which instances touch an atom, as represented in the code.
use Rattle.std.specs.Prelude.{◌≡◌, ℕ, ◌<◌, ◌⊎◌, true, List, [], length, map, slice_get, Contains}
use Rattle.std.specs.Option.{option_map_or}
use Rattle.std.specs.Global.{Vec}
use Rattle.model.specs.Task.{Atom, Task}
use Rattle.model.specs.NumberedLiterals.{NumberedChange, counting_of_number}
use Rattle.lower_bounds.specs.FairPotentials.{touches}
use Rattle.potentials_drafted.specs.declared.incidence.IncidenceEntry.{IncidenceEntry}
use Rattle.potentials_drafted.specs.declared.incidence.Incidence.{Incidence}

-- the number of an instance that touches an atom
abbrev pub number_of : IncidenceEntry → ℕ
number_of touch = touch.number

-- the instances in the row of this atom
abbrev pub touches_at : Incidence → ℕ → List IncidenceEntry
touches_at t a = option_map_or (λ (v : Vec IncidenceEntry). v.items) (slice_get t.rows.items a) []

-- their numbers
abbrev pub row_of : Incidence → ℕ → List ℕ
row_of t a = map number_of (touches_at t a)

-- The numbers are those of instances of the task, and each instance below this number that touches an atom is in the atom's row.
pub record IsIncidence (task : Task) (atoms : List Atom) (count : ℕ) (t : Incidence) : Type 0 where
  pub width : length t.rows.items ≡ length atoms
  pub within : (a n : ℕ) → Contains (row_of t a) n → n < count
  pub covers : (a n : ℕ) → n < count → touches (counting_of_number task atoms n) a ≡ true → Contains (row_of t a) n

-- the number is added to the row of each atom that the changes touch, and to no other
pub record IsAdded (number : ℕ) (changes : List NumberedChange) (old new : Incidence) : Type 0 where
  pub width : length new.rows.items ≡ length old.rows.items
  pub kept : (a n : ℕ) → Contains (row_of old a) n → Contains (row_of new a) n
  pub only : (a n : ℕ) → Contains (row_of new a) n → Contains (row_of old a) n ⊎ (n ≡ number)
  pub added : (a : ℕ) → touches changes a ≡ true → Contains (row_of new a) number
