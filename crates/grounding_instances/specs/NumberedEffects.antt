-- Changes by the numbers of their atoms, with their conditions.
use Rattle.std.specs.Prelude.{ℕ, Bool, true, false, List, if◌then◌else◌, Option, None, Some}
use Rattle.std.specs.List.{filter_map}
use Rattle.std.specs.Option.{option_map}
use Rattle.model.specs.Task.{Atom, Formula, Task, Instance}
use Rattle.model.specs.Meaning.{GroundLiteral, adds, deletes, Change, changes_of_instance}
use Rattle.model.specs.StaticallyFalse.{counts, is_unconditional}
use Rattle.model.specs.NumberedLiterals.{NumberedLiteral, numbered_ground_literal}

-- a formula with a binding of its variables
pub record Guard : Type 0 where
  pub formula : Formula
  pub binding : List ℕ

-- a numbered atom becomes true or false if the guard holds; without a guard, always
pub record NumberedEffect : Type 0 where
  pub atom : ℕ
  pub value : Bool
  pub guard : Option Guard

-- the atom becomes true
abbrev pub is_adding : GroundLiteral → Bool
is_adding (adds a) = true
is_adding (deletes a) = false

-- none if the condition is `(and)`
abbrev pub guard_of : Change → Option Guard
guard_of c = if is_unconditional c then None else Some (record { formula = c.condition; binding = c.binding })

-- none if the atom has no number
abbrev pub numbered_effect : List Atom → Change → Option NumberedEffect
numbered_effect atoms c =
    option_map (λ (l : NumberedLiteral). record { atom = l.atom; value = l.value; guard = guard_of c }) (numbered_ground_literal atoms c.literal)

-- those of the counting changes, in order
abbrev pub counted_effect : Task → List Atom → Change → Option NumberedEffect
counted_effect t atoms c = if counts t c then numbered_effect atoms c else None

abbrev pub counted_effects : Task → List Atom → List Change → List NumberedEffect
counted_effects t atoms changes = filter_map (counted_effect t atoms) changes

-- those of an instance
abbrev pub effects_of_instance : Task → List Atom → Instance → List NumberedEffect
effects_of_instance t atoms i = counted_effects t atoms (changes_of_instance t i)
