-- What it means that an exchange preserves one function, one atom, or one conjunct of the goal.
use Rattle.std.specs.Prelude.{ℕ, Bool, true, ◌||◌, nat_eq, List, slice_get}
use Rattle.std.specs.List.{list_all, list_any}
use Rattle.std.specs.Option.{option_eq, option_map_or}
use Rattle.model.specs.Task.{Atom, Formula, FunctionValue, Task}
use Rattle.model.specs.Meaning.{value_in}
use Rattle.model.specs.Fluents.{is_fluent}
use Rattle.model.specs.NumberedAtoms.{occurs_in}
use Rattle.symmetries_definitions.specs.Exchanges.{image_of_atom, image_of_formula}
use Rattle.symmetries_definitions.specs.SameFormula.{is_same_formula}
use Rattle.symmetries_definitions.specs.Symmetries.{conjuncts}

-- the function has the same value as its image
abbrev pub keeps_value_of : Task → (ℕ → ℕ) → Atom → Bool
keeps_value_of task to f = option_eq nat_eq (value_in task.values (image_of_atom to f)) (value_in task.values f)

abbrev pub keeps_value : Task → (ℕ → ℕ) → FunctionValue → Bool
keeps_value task to v = keeps_value_of task to v.function

-- the atom is fluent, or its image is initially true
abbrev pub keeps_atom : Task → (ℕ → ℕ) → Atom → Bool
keeps_atom task to a = is_fluent task a.predicate || occurs_in task.init (image_of_atom to a)

-- the formula's image is a conjunct of the goal
abbrev pub has_image : Task → (ℕ → ℕ) → Formula → Bool
has_image task to f = list_any (is_same_formula (image_of_formula to f)) (conjuncts task.goal)

-- the entries at the indices in the object's row pass the test
abbrev pub keeps_at : {X : Type 0} → (X → Bool) → List X → (ℕ → List ℕ) → ℕ → Bool
keeps_at test xs rows o = list_all (λ place. option_map_or test (slice_get xs place) true) (rows o)
