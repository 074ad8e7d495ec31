-- Preconditions and conditions of changes in terms of numbered atoms, beyond their literals: the condition of each counting
-- change, and whether a formula requires an atom that has no number and is therefore false in each packed state.
use Rattle.std.specs.Prelude.{ℕ, Bool, false, not, ◌&&◌, List, [], map, slice_get, Option}
use Rattle.std.specs.List.{list_any, filter_map}
use Rattle.std.specs.Option.{option_map, option_map_or}
use Rattle.model.specs.Task.{Atom, Formula, Schema, Task, Instance}
use Rattle.model.specs.Meaning.{Change}
use Rattle.model.specs.Fluents.{is_fluent}
use Rattle.model.specs.SureLiterals.{Literal, is_true, sure}
use Rattle.model.specs.StaticallyFalse.{kept_instances, counting_changes}
use Rattle.model.specs.NumberedAtoms.{occurs_in}
use Rattle.model.specs.NumberedLiterals.{NumberedLiteral, NumberedChange, numbered_change, numbered_literals}

-- the literal requires a fluent atom without a number
abbrev pub is_unnumbered : Task → List Atom → Literal → Bool
is_unnumbered task atoms (is_true a) = is_fluent task a.predicate && not (occurs_in atoms a)
is_unnumbered task atoms _ = false

-- one of the formula's sure literals requires such an atom
abbrev pub requires_unnumbered : Task → List Atom → Formula → List ℕ → Bool
requires_unnumbered task atoms formula binding = list_any (is_unnumbered task atoms) (sure task formula binding)

-- a sure literal of the instance's precondition requires such an atom
abbrev pub instance_requires_unnumbered : Task → List Atom → Instance → Bool
instance_requires_unnumbered task atoms i =
    option_map_or (λ (s : Schema). requires_unnumbered task atoms s.precondition i.objects) (slice_get task.schemas i.schema) false

-- a sure literal of the precondition of the instance with this number requires such an atom
abbrev pub number_requires_unnumbered : Task → List Atom → ℕ → Bool
number_requires_unnumbered task atoms number = option_map_or (instance_requires_unnumbered task atoms) (slice_get (kept_instances task) number) false

-- a change of a numbered atom, with the numbered sure literals of its condition, and whether another sure literal requires an
-- atom without a number, which is false
pub record ConditionalChange : Type 0 where
  pub change : NumberedChange
  pub condition : List NumberedLiteral
  pub requires_unnumbered : Bool

abbrev pub changes_in : List ConditionalChange → List NumberedChange
changes_in changes = map (λ (c : ConditionalChange). c.change) changes

abbrev pub conditional_change : Task → List Atom → Change → Option ConditionalChange
conditional_change task atoms c =
    option_map (λ (k : NumberedChange). record {
      change = k;
      condition = numbered_literals task atoms c.condition c.binding;
      requires_unnumbered = requires_unnumbered task atoms c.condition c.binding;
    }) (numbered_change atoms c)

-- the counting changes of an instance, in order
abbrev pub conditional_of_instance : Task → List Atom → Instance → List ConditionalChange
conditional_of_instance task atoms i = filter_map (conditional_change task atoms) (counting_changes task i)

-- the counting changes of the instance with this number
abbrev pub conditional_of_number : Task → List Atom → ℕ → List ConditionalChange
conditional_of_number task atoms number = option_map_or (conditional_of_instance task atoms) (slice_get (kept_instances task) number) []
