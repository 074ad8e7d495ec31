-- Atoms that may not become true, as they are collected.
use Rattle.std.specs.Prelude.{◌≡◌, ℕ, ◌+◌, ◌<◌, Bool, true, false, ◌&&◌, List, All, Contains, map, slice_get, Some}
use Rattle.std.specs.Option.{option_map_or}
use Rattle.std.specs.FinSet.{contains, empty, insert}
use Rattle.task.specs.TaskParts.{atom_of}
use Rattle.formulas.specs.State.{state_of}
use Rattle.grounding.specs.Ground.{task_in}
use Rattle.model.specs.Task.{Atom, Instance}
use Rattle.model.specs.Meaning.{State}
use Rattle.model.specs.SureLiterals.{Literal, is_true}
use Rattle.model.specs.StaticallyFalse.{kept_instances}
use Rattle.model.specs.ConditionalChanges.{ConditionalChange}
use Rattle.explain_goals.specs.declared.relaxation.Relaxation.{Relaxation}
use Rattle.explain_goals.specs.declared.goal_notes.Unreachable.{Unreachable}
use Rattle.explain_goals.specs.declared.needs.Needs.{Needs}
use Rattle.explain_goals.specs.declared.needs.Needs.TheVariants.{Added, Unreported}
use Rattle.explain_goals.specs.Chains.{InstanceNeedsOneOf, NeedOneOf}
use Rattle.explain_goals.specs.Views.{is_out}

-- what holds if an atom was added
abbrev pub WhenAdded : Needs → Type 0 → Type 0
WhenAdded Added fact = fact
WhenAdded Unreported fact = Unit {0}

-- none of the atoms may become true
abbrev pub AreOut : Relaxation → State → Type 0
AreOut r atoms = (a : Atom) → contains atoms a ≡ true → is_out r a ≡ true

-- the literals require the atom, which may not become true
abbrev pub IsNeed : Relaxation → List Literal → Atom → Type 0
IsNeed r literals a = Contains literals (is_true a) × (is_out r a ≡ true)

-- such an atom was added
pub record IsNeedAdded (r : Relaxation) (literals : List Literal) (old new : State) : Type 0 where
  pub atom : Atom
  pub need : IsNeed r literals atom
  pub is : new ≡ insert old atom

-- now each change of the instance with this number that adds one of the atoms needs one of those
pub record IsAnswered (r : Relaxation) (added : State) (number : ℕ) (old new : State) : Type 0 where
  pub keeps : (a : Atom) → contains old a ≡ true → contains new a ≡ true
  pub out : AreOut r old → AreOut r new
  pub needs : (i : Instance) → slice_get (kept_instances (task_in r.ground.now)) number ≡ Some i → InstanceNeedsOneOf (task_in r.ground.now) added new i

-- the same of the first instances
pub record AreAnsweredBelow (r : Relaxation) (added : State) (count : ℕ) (needed : State) : Type 0 where
  pub out : AreOut r needed
  pub needs : (number : ℕ) (i : Instance) → number < count → slice_get (kept_instances (task_in r.ground.now)) number ≡ Some i → InstanceNeedsOneOf (task_in r.ground.now) added needed i

-- the atom with this number is among these
abbrev pub is_named : List Atom → State → ℕ → Bool
is_named atoms added number = option_map_or (contains added) (slice_get atoms number) false

-- the change adds one of these atoms
abbrev pub is_adding : List Atom → State → ConditionalChange → Bool
is_adding atoms added c = c.change.value && is_named atoms added c.change.atom

-- a chain of atoms that may not become true
pub record IsOutChain (r : Relaxation) (a : Atom) (links : List State) : Type 0 where
  pub begins : slice_get links 0 ≡ Some (insert empty a)
  pub linked : (k : ℕ) (added needed : State) → slice_get links k ≡ Some added → slice_get links (k + 1) ≡ Some needed → NeedOneOf (task_in r.ground.now) added needed
  pub out : (k : ℕ) (link : State) → slice_get links k ≡ Some link → AreOut r link

-- an atom that the literals require and that may not become true, with its chain
abbrev pub IsUnreachable : Relaxation → List Literal → Unreachable → Type 0
IsUnreachable r literals u = IsNeed r literals (atom_of u.atom) × IsOutChain r (atom_of u.atom) (map state_of u.chain.items)

abbrev pub AreUnreachable : Relaxation → List Literal → List Unreachable → Type 0
AreUnreachable r literals found = All (IsUnreachable r literals) found
