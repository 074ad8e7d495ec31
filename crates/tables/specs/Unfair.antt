-- The first value that is unfair for an instance, where that for dead ends comes last.
use Rattle.std.specs.Prelude.{ℕ, ◌+◌, ◌<◌, nat_lt, if◌then◌else◌, IsTrue, List, length, get_or, Option, None, Some}
use Rattle.model.specs.Task.{Atom, Task, Instance}
use Rattle.model.specs.Meaning.{cost_of}
use Rattle.lower_bounds.specs.FairPotentials.{nothing}
use Rattle.lower_bounds.specs.TableFunctions.{TableFunction, SeveralValues}
use Rattle.lower_bounds.specs.FairTables.{is_asked, IsFairAt, IsFirstUnfairAt}
use Rattle.tables.specs.Fairness.{AreInstancesFairAt}
use Rattle.tables.specs.declared.unfair.Unfair.{Unfair}

-- ---- places

-- the number of values with that for dead ends
abbrev pub places_in : SeveralValues → ℕ
places_in s = length s.values + 1

abbrev pub function_in : SeveralValues → ℕ → TableFunction
function_in s place = record { potentials = get_or s.values place s.dead_ends; tables = s.tables; place = place }

-- the loss that an instance is allowed: its cost, and nothing of the value for dead ends
abbrev pub allowance_in : Task → SeveralValues → ℕ → Instance → ℕ
allowance_in task s place = if nat_lt place (length s.values) then cost_of task else nothing

-- ---- one instance

-- the value is fair for the instance, unless it is shut out
abbrev pub IsFairIn : Task → List Atom → SeveralValues → ℕ → Instance → Type 0
IsFairIn task atoms s place i = IsTrue (is_asked task atoms s.tables i) → IsFairAt (allowance_in task s place i) task atoms (function_in s place) i

-- the first of `count` places where it fails
pub record IsFirstNot (P : ℕ → Type 0) (count place : ℕ) : Type 0 where
  pub within : place < count
  pub fails : ¬ P place
  pub earlier : (k : ℕ) → k < place → P k

abbrev pub IsFirstOf : (P : ℕ → Type 0) → ℕ → Option ℕ → Type 0
IsFirstOf P count None = (k : ℕ) → k < count → P k
IsFirstOf P count (Some place) = IsFirstNot P count place

-- ---- all instances

abbrev pub AreFairIn : Task → List Atom → SeveralValues → ℕ → Type 0
AreFairIn task atoms s place = AreInstancesFairAt (allowance_in task s place) task atoms (function_in s place)

-- the first value that is unfair for a kept instance, and the first such instance
pub record IsUnfairFirst (task : Task) (atoms : List Atom) (s : SeveralValues) (u : Unfair) : Type 0 where
  pub within : u.place < places_in s
  pub unfair : IsFirstUnfairAt (is_asked task atoms s.tables) (allowance_in task s u.place) task atoms (function_in s u.place) u.number
  pub earlier : (k : ℕ) → k < u.place → AreFairIn task atoms s k

abbrev pub IsFirstUnfairValue : Task → List Atom → SeveralValues → Option Unfair → Type 0
IsFirstUnfairValue task atoms s None = (k : ℕ) → k < places_in s → AreFairIn task atoms s k
IsFirstUnfairValue task atoms s (Some u) = IsUnfairFirst task atoms s u

-- ---- one after another

-- the number of places before it, `count` where there is none
abbrev pub places_before : ℕ → Option Unfair → ℕ
places_before count None = count
places_before count (Some u) = u.place

abbrev pub least_of : Option Unfair → Unfair → Unfair
least_of None next = next
least_of (Some first) next = if nat_lt next.place first.place then next else first

abbrev pub earlier_of : Option Unfair → Option ℕ → ℕ → Option Unfair
earlier_of first None number = first
earlier_of first (Some place) number = Some (least_of first (record { place = place; number = number }))
