-- Symmetries of a planning task: exchanges of objects that preserve it except for its initial fluent atoms (Pochter, Zohar &
-- Rosenschein 2011; Domshlak, Katz & Shleyfman 2015). They are symmetries of the task as it was read, not of its instances.
use Rattle.std.specs.Prelude.{◌≡◌, ℕ, Bool, false, ◌&&◌, ◌==◌, nat_eq, List, [], ◌∷◌, ◌++◌, slice_get, Contains, Option}
use Rattle.std.specs.List.{list_all, list_any}
use Rattle.std.specs.Option.{option_map, option_eq}
use Rattle.std.specs.FinSet.{contains}
use Rattle.model.specs.Task.{Object, Atom, Formula, Formulas, and, no_formula, more_formulas, FunctionValue, Task}
use Rattle.model.specs.Meaning.{initial_state, value_in}
use Rattle.model.specs.Fluents.{is_fluent, static_atoms}
use Rattle.model.specs.NumberedAtoms.{occurs_in}
use Rattle.symmetries_definitions.specs.Exchanges.{Exchange, image_of_object, objects_in, are_different, image_of_atom, image_of_formula}
use Rattle.symmetries_definitions.specs.NamedObjects.{named_in_actions}
use Rattle.symmetries_definitions.specs.SameFormula.{is_same_formula}

-- the declared type of an object, if the task has the object
abbrev pub declared_type : Task → ℕ → Option ℕ
declared_type task o = option_map (λ (x : Object). x.type) (slice_get task.objects o)

-- the conjuncts of a formula: the parts of its outermost `and`, with nested `and`s flattened; or the formula itself
abbrev mutual
  pub conjuncts : Formula → List Formula
  conjuncts (and parts) = conjuncts_of_all parts
  conjuncts other = other ∷ []

  pub conjuncts_of_all : Formulas → List Formula
  conjuncts_of_all no_formula = []
  conjuncts_of_all (more_formulas first rest) = conjuncts first ++ conjuncts_of_all rest

-- An exchange is a symmetry of the task if swapped objects have the same declared type and are named by no action, and it
-- preserves the values of functions, the static initial atoms and the goal's conjuncts. Atoms that actions change may differ: two
-- balls are interchangeable wherever they are.
pub record IsSymmetry (task : Task) (to : ℕ → ℕ) : Type 0 where
  pub both_ways : (o : ℕ) → to (to o) ≡ o
  pub types : (o : ℕ) → declared_type task (to o) ≡ declared_type task o
  pub actions : (o : ℕ) → Contains (named_in_actions task) o → to o ≡ o
  pub values : (f : Atom) → value_in task.values (image_of_atom to f) ≡ value_in task.values f
  pub statics : (a : Atom) → is_fluent task a.predicate ≡ false → contains (initial_state task) (image_of_atom to a) ≡ contains (initial_state task) a
  -- one inclusion suffices, as the exchange is its own inverse
  pub goal : (part : Formula) → Contains (conjuncts task.goal) part → Contains (conjuncts task.goal) (image_of_formula to part)

-- ---- the test

abbrev pub keeps_types : Task → Exchange → Bool
keeps_types task exchange = list_all (λ (pair : ℕ × ℕ). option_eq nat_eq (declared_type task pair.0) (declared_type task pair.1)) exchange

abbrev pub keeps_actions : Task → (ℕ → ℕ) → Bool
keeps_actions task to = list_all (λ o. to o == o) (named_in_actions task)

abbrev pub keeps_values : Task → (ℕ → ℕ) → Bool
keeps_values task to =
    list_all (λ (v : FunctionValue). option_eq nat_eq (value_in task.values (image_of_atom to v.function)) (value_in task.values v.function)) task.values

abbrev pub keeps_statics : Task → (ℕ → ℕ) → Bool
keeps_statics task to = list_all (λ (a : Atom). occurs_in task.init (image_of_atom to a)) (static_atoms task)

abbrev pub keeps_goal : Task → (ℕ → ℕ) → Bool
keeps_goal task to = list_all (λ part. list_any (is_same_formula (image_of_formula to part)) (conjuncts task.goal)) (conjuncts task.goal)

-- All objects of the pairs are different, and the exchange is a symmetry.
abbrev pub is_symmetry : Task → Exchange → Bool
is_symmetry task exchange =
    are_different (objects_in exchange)
    && keeps_types task exchange
    && keeps_actions task (image_of_object exchange)
    && keeps_values task (image_of_object exchange)
    && keeps_statics task (image_of_object exchange)
    && keeps_goal task (image_of_object exchange)
