-- What atoms need that may not become true: chains of sets of atoms.
use Rattle.std.specs.Prelude.{◌≡◌, ◌+◌, ℕ, true, List, slice_get, Some}
use Rattle.std.specs.FinSet.{contains, empty, insert}
use Rattle.model.specs.Task.{Task, Atom, Instance}
use Rattle.model.specs.Meaning.{State, Change}
use Rattle.explain_goals.specs.Relaxation.{Needs, Adds, IsNeverTrue}

-- a change of the instance that adds one of the atoms needs one of the others
abbrev pub InstanceNeedsOneOf : Task → (added needed : State) → Instance → Type 0
InstanceNeedsOneOf t added needed i =
    (c : Change) (a : Atom) → contains added a ≡ true → Adds t i c a → (b : Atom) × (contains needed b ≡ true) × Needs t i c b

-- so does each change that adds one of the atoms; if there are no others, then no change adds one
abbrev pub NeedOneOf : Task → (added needed : State) → Type 0
NeedOneOf t added needed = (i : Instance) → InstanceNeedsOneOf t added needed i

-- A chain begins with the atom alone. What adds an atom of a link needs one of the next link, and none of them is ever true.
pub record IsChain (t : Task) (a : Atom) (links : List State) : Type 0 where
  pub begins : slice_get links 0 ≡ Some (insert empty a)
  pub linked : (k : ℕ) (added needed : State) → slice_get links k ≡ Some added → slice_get links (k + 1) ≡ Some needed → NeedOneOf t added needed
  pub never_true : (k : ℕ) (link : State) (b : Atom) → slice_get links k ≡ Some link → contains link b ≡ true → IsNeverTrue t b
