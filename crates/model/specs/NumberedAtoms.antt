-- The atoms that are numbered when a task is grounded.
use Rattle.std.specs.Prelude.{◌≡◌, ℕ, Bool, true, not, ◌&&◌, ◌||◌, List, [], ◌∷◌, ◌++◌, map, filter, if◌then◌else◌, Option}
use Rattle.std.specs.List.{list_any, flat_map, position}
use Rattle.std.specs.Ordering.{eq_by_cmp}
use Rattle.std.specs.FinSet.{contains}
use Rattle.model.specs.Task.{Atom, Task, Instance}
use Rattle.model.specs.Meaning.{State, initial_state, atom_cmp, GroundLiteral, adds, deletes, Change}
use Rattle.model.specs.Fluents.{is_fluent}
use Rattle.model.specs.StaticallyFalse.{kept_instances, counting_changes}

-- the atom is in the list
abbrev pub occurs_in : List Atom → Atom → Bool
occurs_in atoms a = list_any (eq_by_cmp atom_cmp a) atoms

-- the list with the atom appended, unless it is there already
abbrev pub with_atom : List Atom → Atom → List Atom
with_atom atoms a = if occurs_in atoms a then atoms else atoms ++ a ∷ []

-- the list with each of these appended in turn
abbrev pub with_atoms : List Atom → List Atom → List Atom
with_atoms atoms [] = atoms
with_atoms atoms (a ∷ rest) = with_atoms (with_atom atoms a) rest

-- the atom that is added or deleted
abbrev pub atom_of_literal : GroundLiteral → Atom
atom_of_literal (adds a) = a
atom_of_literal (deletes a) = a

-- the atoms that a counting change adds or deletes
abbrev pub touched_by : Task → Instance → List Atom
touched_by task i = map (λ (c : Change). atom_of_literal c.literal) (counting_changes task i)

abbrev pub initial_fluent_atoms : Task → List Atom
initial_fluent_atoms task = filter (λ (a : Atom). is_fluent task a.predicate) task.init

-- The numbered atoms, without repetition, each at the index of its number: `more`, in its order; then the fluent atoms that are
-- initially true; then those that a counting change of a kept instance adds or deletes.
abbrev pub numbered_atoms : Task → List Atom → List Atom
numbered_atoms task more =
    with_atoms [] (more ++ initial_fluent_atoms task ++ flat_map (touched_by task) (kept_instances task))

-- the number of an atom, if it has one
abbrev pub number_of : List Atom → Atom → Option ℕ
number_of atoms a = position (eq_by_cmp atom_cmp a) atoms

-- no atom is repeated
abbrev pub are_distinct : List Atom → Bool
are_distinct [] = true
are_distinct (a ∷ rest) = not (occurs_in rest a) && are_distinct rest

-- the fluent atoms that are true in the state are numbered
abbrev pub HasNumberedFluents : Task → List Atom → State → Type 0
HasNumberedFluents task atoms state = (a : Atom) → is_fluent task a.predicate ≡ true → contains state a ≡ true → occurs_in atoms a ≡ true

-- What numbering gives: no atom has two numbers; the atoms of `more` keep their indices, if they are distinct; and the numbered
-- atoms are those of `more`, the fluent ones that are initially true, and those that a counting change of a kept instance adds or
-- deletes.
pub record AreNumbered (task : Task) (more atoms : List Atom) : Type 0 where
  pub once : are_distinct atoms ≡ true
  pub more_first : are_distinct more ≡ true → (others : List Atom) × (atoms ≡ more ++ others)
  pub which : (a : Atom) → occurs_in atoms a
      ≡ ((occurs_in more a || (is_fluent task a.predicate && contains (initial_state task) a)) || list_any (λ i. occurs_in (touched_by task i) a) (kept_instances task))
