-- Literals of atoms without a number, and of objects: each has one truth value in all packed states.
use Rattle.std.specs.Prelude.{Bool, nat_eq, not, ◌&&◌, ◌||◌, List, is_some}
use Rattle.std.specs.FinSet.{contains}
use Rattle.model.specs.Task.{Atom, Task}
use Rattle.model.specs.Meaning.{initial_state}
use Rattle.model.specs.Fluents.{is_fluent}
use Rattle.model.specs.SureLiterals.{Literal, is_true, is_false, are_same, are_different}
use Rattle.model.specs.NumberedAtoms.{number_of}

-- the atom is of a static predicate, and in the initial state
abbrev pub is_initial_static : Task → Atom → Bool
is_initial_static t a = not (is_fluent t a.predicate) && contains (initial_state t) a

-- the literal's atom has a number, or the literal is true in all packed states; any other is true in none
abbrev pub may_hold : Task → List Atom → Literal → Bool
may_hold t atoms (is_true a) = is_some (number_of atoms a) || is_initial_static t a
may_hold t atoms (is_false a) = is_some (number_of atoms a) || not (is_initial_static t a)
may_hold t atoms (are_same a b) = nat_eq a b
may_hold t atoms (are_different a b) = not (nat_eq a b)
