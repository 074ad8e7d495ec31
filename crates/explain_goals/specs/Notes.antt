-- The notes on the goal of a task.
use Rattle.std.specs.Prelude.{ℕ, List, [], map, All, IfSome}
use Rattle.task.specs.TaskParts.{atom_of}
use Rattle.formulas.specs.State.{state_of}
use Rattle.model.specs.Task.{Task}
use Rattle.explain_goals.specs.declared.exclusive.Exclusive.{Exclusive}
use Rattle.explain_goals.specs.declared.goal_notes.GoalNotes.{GoalNotes}
use Rattle.explain_goals.specs.declared.goal_notes.Unreachable.{Unreachable}
use Rattle.model.specs.SureLiterals.{Literal, sure}
use Rattle.explain_goals.specs.Contradictions.{IsBoth}
use Rattle.explain_goals.specs.Exclusive.{AreExclusive}
use Rattle.explain_goals.specs.Chains.{IsChain}
use Rattle.explain_goals.specs.Relaxation.{IsNeverTrue, IsRequired}

-- the maximum number of atoms that are searched for: one more than are reported
abbrev pub most_found : ℕ
most_found = 11

-- the goal requires the atom, no list of actions makes it true, and this is what it needs
pub record IsNoteOf (t : Task) (u : Unreachable) : Type 0 where
  pub required : IsRequired t (atom_of u.atom)
  pub never_true : IsNeverTrue t (atom_of u.atom)
  pub chain : IsChain t (atom_of u.atom) (map state_of u.chain.items)

-- the literals require two atoms of a group of which at most one is ever true
abbrev pub IsExclusiveNote : Task → List Literal → Exclusive → Type 0
IsExclusiveNote t literals e = AreExclusive t literals (state_of e.group) (atom_of e.first) (atom_of e.second)

-- so a task with a note is unsolvable
pub record AreGoalNotesOf (t : Task) (notes : GoalNotes) : Type 0 where
  pub unreachable : All (IsNoteOf t) notes.unreachable.items
  pub contradictory : IfSome notes.contradictory (λ a. IsBoth (sure t t.goal []) (atom_of a))
  pub exclusive : IfSome notes.exclusive (IsExclusiveNote t (sure t t.goal []))
