-- Goals that require two atoms of a group of which at most one is ever true, such as one object in two places.
use Rattle.std.specs.Prelude.{◌≡◌, true, false, List, [], Contains}
use Rattle.std.specs.FinSet.{contains}
use Rattle.model.specs.Task.{Task, Atom}
use Rattle.model.specs.Runs.{IsReachable, IsUnsolvable}
use Rattle.model.specs.Meaning.{State, system_of}
use Rattle.model.specs.SureLiterals.{Literal, is_true, sure}

-- In each state that a list of actions leads to, of whatever length, at most one of the atoms is true: a mutex group (Helmert 2009,
-- "Concise finite-domain representations for PDDL planning tasks", AIJ 173).
abbrev pub IsMutexGroup : Task → (group : State) → Type 0
IsMutexGroup t group =
    (s : State) → IsReachable (system_of t) s → (a b : Atom) → contains group a ≡ true → contains group b ≡ true → contains s a ≡ true → contains s b ≡ true → a ≡ b

-- the literals require two different atoms of the group
pub record AreTwoOf (literals : List Literal) (group : State) (a b : Atom) : Type 0 where
  pub differ : ¬ (a ≡ b)
  pub first : Contains literals (is_true a)
  pub first_in : contains group a ≡ true
  pub second : Contains literals (is_true b)
  pub second_in : contains group b ≡ true

-- and at most one of them is ever true
pub record AreExclusive (t : Task) (literals : List Literal) (group : State) (a b : Atom) : Type 0 where
  pub two : AreTwoOf literals group a b
  pub mutex : IsMutexGroup t group

-- a goal that requires such atoms is met in no state that a list of actions leads to, so the task is unsolvable
abbrev pub ExclusiveGoalsAreUnsolvable : Type 0
ExclusiveGoalsAreUnsolvable = (t : Task) (group : State) (a b : Atom) → AreExclusive t (sure t t.goal []) group a b → IsUnsolvable (system_of t)

-- the literals require the atom, which is in the group and not excluded
pub record IsOtherOf (literals : List Literal) (group excluded : State) (a : Atom) : Type 0 where
  pub required : Contains literals (is_true a)
  pub there : contains group a ≡ true
  pub other : contains excluded a ≡ false
