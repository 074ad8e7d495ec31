-- Literals and changes by the numbers of their atoms: the sure literals of an instance's precondition and of the goal, and the
-- counting changes. Static atoms and equalities have no number, and are in none of these lists.
use Rattle.std.specs.Prelude.{ℕ, Bool, true, false, not, List, [], slice_get, get_or, if◌then◌else◌, Option, None}
use Rattle.std.specs.List.{filter_map}
use Rattle.std.specs.Option.{option_map, option_map_or}
use Rattle.model.specs.Task.{Atom, Formula, Schema, Task, Instance}
use Rattle.model.specs.Meaning.{GroundLiteral, adds, deletes, Change}
use Rattle.model.specs.SureLiterals.{Literal, is_true, is_false, sure}
use Rattle.model.specs.StaticallyFalse.{kept_instances, counting_changes, is_unconditional}
use Rattle.model.specs.NumberedAtoms.{number_of}

-- a literal of a numbered atom
pub record NumberedLiteral : Type 0 where
  pub atom : ℕ
  pub value : Bool

-- none if the atom has no number, and for an equality
abbrev pub numbered_literal : List Atom → Literal → Option NumberedLiteral
numbered_literal atoms (is_true a) = option_map (λ (number : ℕ). record { atom = number; value = true }) (number_of atoms a)
numbered_literal atoms (is_false a) = option_map (λ (number : ℕ). record { atom = number; value = false }) (number_of atoms a)
numbered_literal atoms _ = None

-- the sure literals of a formula with numbered atoms, in order
abbrev pub numbered_literals : Task → List Atom → Formula → List ℕ → List NumberedLiteral
numbered_literals task atoms formula binding = filter_map (numbered_literal atoms) (sure task formula binding)

-- the literals of an instance's precondition
abbrev pub literals_of_instance : Task → List Atom → Instance → List NumberedLiteral
literals_of_instance task atoms i =
    option_map_or (λ (s : Schema). numbered_literals task atoms s.precondition i.objects) (slice_get task.schemas i.schema) []

-- the literals of the instance with this number
abbrev pub literals_of_number : Task → List Atom → ℕ → List NumberedLiteral
literals_of_number task atoms number = option_map_or (literals_of_instance task atoms) (slice_get (kept_instances task) number) []

-- the literals of the goal
abbrev pub literals_of_goal : Task → List Atom → List NumberedLiteral
literals_of_goal task atoms = numbered_literals task atoms task.goal []

-- a numbered atom becomes true or false, with or without a condition
pub record NumberedChange : Type 0 where
  pub atom : ℕ
  pub value : Bool
  pub is_unconditional : Bool

abbrev pub numbered_ground_literal : List Atom → GroundLiteral → Option NumberedLiteral
numbered_ground_literal atoms (adds a) = numbered_literal atoms (is_true a)
numbered_ground_literal atoms (deletes a) = numbered_literal atoms (is_false a)

abbrev pub numbered_change : List Atom → Change → Option NumberedChange
numbered_change atoms c =
    option_map (λ (l : NumberedLiteral). record { atom = l.atom; value = l.value; is_unconditional = is_unconditional c }) (numbered_ground_literal atoms c.literal)

-- the counting changes of an instance, in order
abbrev pub counting_of_instance : Task → List Atom → Instance → List NumberedChange
counting_of_instance task atoms i = filter_map (numbered_change atoms) (counting_changes task i)

-- the counting changes of the instance with this number
abbrev pub counting_of_number : Task → List Atom → ℕ → List NumberedChange
counting_of_number task atoms number = option_map_or (counting_of_instance task atoms) (slice_get (kept_instances task) number) []

-- the packed state agrees with the literal
abbrev pub agrees : List Bool → NumberedLiteral → Bool
agrees bits l = if l.value then get_or bits l.atom false else not (get_or bits l.atom false)
