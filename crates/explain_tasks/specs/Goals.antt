-- Atoms that the goal requires and that are never true.
use Rattle.std.specs.Prelude.{◌≡◌, ℕ, Bool, false, not, ◌&&◌, ◌||◌, nat_lt, List, [], ◌∷◌, ◌++◌, length, take, filter, if◌then◌else◌}
use Rattle.std.specs.Ordering.{eq_by_cmp}
use Rattle.std.specs.FinSet.{contains}
use Rattle.std.specs.List.{list_any, flat_map}
use Rattle.model.specs.Task.{Task, Atom, Instance}
use Rattle.model.specs.Meaning.{State, atom_cmp, Change, GroundLiteral, adds, deletes, changes_of_instance, initial_state}
use Rattle.model.specs.SureLiterals.{Literal, is_true, sure}
use Rattle.model.specs.StaticallyFalse.{kept_instances}

abbrev pub makes_true : Atom → GroundLiteral → Bool
makes_true a (adds b) = eq_by_cmp atom_cmp b a
makes_true a (deletes b) = false

abbrev pub change_makes_true : Atom → Change → Bool
change_makes_true a c = makes_true a c.literal

-- a change of the instance adds the atom, under any condition
abbrev pub is_added_by : Task → Atom → Instance → Bool
is_added_by t a i = list_any (change_makes_true a) (changes_of_instance t i)

-- The atom is initially false and no kept instance adds it: so it is false in every reachable state.
abbrev pub is_never_true : Task → Atom → Bool
is_never_true t a = not (contains (initial_state t) a) && not (list_any (is_added_by t a) (kept_instances t))

abbrev pub atom_asked_for : Literal → List Atom
atom_asked_for (is_true a) = a ∷ []
atom_asked_for _ = []

abbrev pub atoms_asked_for : List Literal → List Atom
atoms_asked_for = flat_map atom_asked_for

-- the atoms among the goal's sure literals: under nothing but `and` and `forall`
abbrev pub goal_atoms : Task → List Atom
goal_atoms t = atoms_asked_for (sure t t.goal [])

-- the first few of them that are never true
abbrev pub first_missing : Task → (limit : ℕ) → List Atom
first_missing t limit = take limit (filter (is_never_true t) (goal_atoms t))

-- ---- intermediate definitions

-- the new set has also the atoms that pass the test
abbrev pub Gains : (Atom → Bool) → (old new : State) → Type 0
Gains test old new = (a : Atom) → contains new a ≡ (contains old a || test a)

-- the new set has also the atoms that are asked for and pass the test
abbrev pub GainsAsked : (asked : State) → (Atom → Bool) → (old new : State) → Type 0
GainsAsked asked test old new = Gains (λ a. contains asked a && test a) old new

-- the atom is initially false and not in this set
abbrev pub is_neither : Task → (added : State) → Atom → Bool
is_neither t added a = not (contains (initial_state t) a) && not (contains added a)

-- one more atom is looked at
abbrev pub with_passing : (Atom → Bool) → (limit : ℕ) → List Atom → Atom → List Atom
with_passing test limit found a = if nat_lt (length found) limit && test a then found ++ a ∷ [] else found
