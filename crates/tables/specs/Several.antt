-- Views of several values in memory, and reports on them.
use Rattle.std.specs.Prelude.{◌≡◌, ℕ, ◌+◌, Bool, ℤ, pos, All, List, length, map, take, slice_get, slice_index_or, Some}
use Rattle.model.specs.Task.{Atom, Task}
use Rattle.model.specs.Meaning.{cost_of}
use Rattle.packed_state.specs.Packed.{bits_of}
use Rattle.lower_bounds.specs.PotentialFunctions.{score}
use Rattle.potentials.specs.Potentials.{potentials_of}
use Rattle.potentials.specs.declared.potentials.Potentials.{Potentials}
use Rattle.lower_bounds.specs.FairPotentials.{nothing}
use Rattle.lower_bounds.specs.TableFunctions.{TableFunction, SeveralValues, functions_of, dead_ends_of}
use Rattle.lower_bounds.specs.FairTables.{IsFair, IsFairAtGoals, IsFirstUnfair, IsFirstDeadUnfair, AreFair}
use Rattle.tables.specs.AllTables.{tables_of, count_of}
use Rattle.tables.specs.Fairness.{AreInstancesFairAt}
use Rattle.tables.specs.KnownRows.{IsKnown}
use Rattle.tables.specs.declared.known_state.KnownState.{KnownState}
use Rattle.tables.specs.declared.several.TableFunctions.{TableFunctions}
use Rattle.tables.specs.declared.several.ValuesFairness.{ValuesFairness}
use Rattle.tables.specs.declared.several.ValuesFairness.TheVariants as reported

abbrev pub several_of : TableFunctions → SeveralValues
several_of f = record { values = map potentials_of f.values.items; dead_ends = potentials_of f.dead_ends; tables = tables_of f.tables }

-- the number of atoms with a weight
abbrev pub width_of : TableFunctions → ℕ
width_of f = length (potentials_of f.dead_ends).weights

-- the scores of the packed state's atoms by each value, and last by that for dead ends
pub record AreScores (values : List Potentials) (dead_ends : Potentials) (bits : List Bool) (scores : List ℤ) : Type 0 where
  pub long : length scores ≡ length values + 1
  pub each : (k : ℕ) (p : Potentials) → slice_get values k ≡ Some p → slice_index_or scores k (pos 0) ≡ score (potentials_of p) bits
  pub last : slice_index_or scores (length values) (pos 0) ≡ score (potentials_of dead_ends) bits

-- the packed state of which it is known
abbrev pub state_of : KnownState → List Bool
state_of k = bits_of k.rows.projections.state

-- the rows and the scores are those of the state
pub record Knows (f : TableFunctions) (k : KnownState) : Type 0 where
  pub width : length (state_of k) ≡ width_of f
  pub rows : IsKnown (tables_of f.tables) (count_of f.tables) k.rows
  pub scores : AreScores f.values.items f.dead_ends (state_of k) k.scores.items

-- the value at this place, where all before it are fair
pub record IsFirstValue (task : Task) (atoms : List Atom) (s : SeveralValues) (place : ℕ) (function : TableFunction) : Type 0 where
  pub named : slice_get (functions_of s) place ≡ Some function
  pub earlier : All (IsFair task atoms) (take place (functions_of s))

-- the first unfair value, and the first instance for which it is unfair
pub record IsFirstInstance (task : Task) (atoms : List Atom) (s : SeveralValues) (place number : ℕ) : Type 0 where
  pub function : TableFunction
  pub first : IsFirstValue task atoms s place function
  pub unfair : IsFirstUnfair task atoms function number

-- the first unfair value is fair for each instance, but not at goals
pub record IsUnfairAtGoals (task : Task) (atoms : List Atom) (s : SeveralValues) (place : ℕ) : Type 0 where
  pub function : TableFunction
  pub first : IsFirstValue task atoms s place function
  pub instances : AreInstancesFairAt (cost_of task) task atoms function
  pub unfair : ¬ IsFairAtGoals task atoms function

-- all values are fair; this is the first instance for which that for dead ends is not dead-fair
pub record IsFirstDeadInstance (task : Task) (atoms : List Atom) (s : SeveralValues) (number : ℕ) : Type 0 where
  pub values : All (IsFair task atoms) (functions_of s)
  pub unfair : IsFirstDeadUnfair task atoms (dead_ends_of s) number

-- all values are fair; that for dead ends is dead-fair for each instance, but not at goals
pub record IsUnfairAtDeadGoals (task : Task) (atoms : List Atom) (s : SeveralValues) : Type 0 where
  pub values : All (IsFair task atoms) (functions_of s)
  pub instances : AreInstancesFairAt nothing task atoms (dead_ends_of s)
  pub unfair : ¬ IsFairAtGoals task atoms (dead_ends_of s)

abbrev pub ReportsValues : Task → List Atom → SeveralValues → ValuesFairness → Type 0
ReportsValues task atoms s reported.Fair = AreFair task atoms s
ReportsValues task atoms s (reported.Instance place number) = IsFirstInstance task atoms s place number
ReportsValues task atoms s (reported.Goals place) = IsUnfairAtGoals task atoms s place
ReportsValues task atoms s (reported.DeadEndInstance number) = IsFirstDeadInstance task atoms s number
ReportsValues task atoms s reported.DeadEndGoals = IsUnfairAtDeadGoals task atoms s
