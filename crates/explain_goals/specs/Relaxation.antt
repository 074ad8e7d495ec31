-- What may become true in the delete relaxation of a task, which ignores deletes and negative literals (Bonet & Geffner 2001,
-- "Planning as heuristic search", AIJ 129).
use Rattle.std.specs.Prelude.{◌≡◌, Bool, true, false, List, [], ◌++◌, slice_get, Contains}
use Rattle.std.specs.Option.{option_map_or}
use Rattle.std.specs.FinSet.{contains}
use Rattle.model.specs.Task.{Task, Atom, Schema, Instance}
use Rattle.model.specs.Runs.{IsReachable}
use Rattle.model.specs.Meaning.{State, Change, adds, initial_state, system_of}
use Rattle.model.specs.SureLiterals.{Literal, is_true, sure}
use Rattle.model.specs.StaticallyFalse.{kept_instances, counting_changes}

-- the sure literals of the instance's precondition
abbrev pub sure_of_instance : Task → Instance → List Literal
sure_of_instance t i = option_map_or (λ (s : Schema). sure t s.precondition i.objects) (slice_get t.schemas i.schema) []

-- a change of the instance needs the atom: it is a sure literal of the precondition, or of the change's condition
abbrev pub Needs : Task → Instance → Change → Atom → Type 0
Needs t i c a = Contains (sure_of_instance t i ++ sure t c.condition c.binding) (is_true a)

-- a counting change of a kept instance adds the atom
pub record Adds (t : Task) (i : Instance) (c : Change) (a : Atom) : Type 0 where
  pub kept : Contains (kept_instances t) i
  pub counts : Contains (counting_changes t i) c
  pub is : c.literal ≡ adds a

-- The set has the atoms that are initially true, and each atom that a change adds whose needs it has.
pub record IsClosed (t : Task) (set : Atom → Bool) : Type 0 where
  pub initial : (a : Atom) → contains (initial_state t) a ≡ true → set a ≡ true
  pub added : (i : Instance) (c : Change) (a : Atom) → Adds t i c a → ((b : Atom) → Needs t i c b → set b ≡ true) → set a ≡ true

-- no list of actions, of whatever length, leads to a state in which the atom is true
abbrev pub IsNeverTrue : Task → Atom → Type 0
IsNeverTrue t a = (s : State) → IsReachable (system_of t) s → contains s a ≡ false

-- the goal requires the atom: it is one of its sure literals
abbrev pub IsRequired : Task → Atom → Type 0
IsRequired t a = Contains (sure t t.goal []) (is_true a)
