-- Goals that require an atom to be true and to be false.
use Rattle.std.specs.Prelude.{◌≡◌, true, List, [], Contains}
use Rattle.std.specs.FinSet.{contains}
use Rattle.model.specs.Task.{Task, Atom}
use Rattle.model.specs.Runs.{IsUnsolvable}
use Rattle.model.specs.Meaning.{State, system_of}
use Rattle.model.specs.SureLiterals.{Literal, is_true, is_false, sure}

-- the literals require the atom to be true and to be false
pub record IsBoth (literals : List Literal) (a : Atom) : Type 0 where
  pub as_true : Contains literals (is_true a)
  pub as_false : Contains literals (is_false a)

-- a goal that does so is met in no state, so the task is unsolvable
abbrev pub ContradictoryGoalsAreUnsolvable : Type 0
ContradictoryGoalsAreUnsolvable = (t : Task) (a : Atom) → IsBoth (sure t t.goal []) a → IsUnsolvable (system_of t)

-- the literals require one of these atoms to be true
pub record IsOneRequired (literals : List Literal) (atoms : State) : Type 0 where
  pub atom : Atom
  pub there : contains atoms atom ≡ true
  pub required : Contains literals (is_true atom)
