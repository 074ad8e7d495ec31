-- What no reachable state satisfies, as the initial state already shows: formulas that are statically false, the instances that
-- are not statically inapplicable, and the changes that count (notions of the planner; the semantics of a task does not depend on
-- them).
use Rattle.std.specs.Prelude.{◌≡◌, ℕ, Bool, true, false, not, ◌&&◌, List, filter, slice_get, None}
use Rattle.std.specs.List.{list_any}
use Rattle.std.specs.Option.{option_map_or}
use Rattle.model.specs.Task.{Formula, and, no_formula, Task, Instance}
use Rattle.model.specs.Meaning.{State, initial_state, holds, Change, changes_of_instance, has_amount, step}
use Rattle.model.specs.Fluents.{is_fluent, HasInitialStatics}
use Rattle.model.specs.Instances.{all_instances}
use Rattle.model.specs.SureLiterals.{Literal, is_true, is_false, are_same, are_different, literal_holds, sure}

-- the literal has a static predicate or is an equality: its truth value is the same in each reachable state as initially
abbrev pub is_fixed : Task → Literal → Bool
is_fixed task (is_true a) = not (is_fluent task a.predicate)
is_fixed task (is_false a) = not (is_fluent task a.predicate)
is_fixed task (are_same a b) = true
is_fixed task (are_different a b) = true

-- A formula is statically false under a binding if one of its sure literals is static or an equality, and is initially false.
abbrev pub is_statically_false : Task → Formula → List ℕ → Bool
is_statically_false task formula binding =
    list_any (λ l. is_fixed task l && not (literal_holds (initial_state task) l)) (sure task formula binding)

-- An instance is kept if its precondition is not statically false and its cost increase has a value.
abbrev pub is_kept : Task → Instance → Bool
is_kept task i =
    option_map_or (λ schema. has_amount task schema i.objects && not (is_statically_false task schema.precondition i.objects)) (slice_get task.schemas i.schema) false

-- The kept instances, in the order of all instances. The number of one is its index, from 0.
abbrev pub kept_instances : Task → List Instance
kept_instances task = filter (is_kept task) (all_instances task)

-- a change counts if its condition is not statically false
abbrev pub counts : Task → Change → Bool
counts task c = not (is_statically_false task c.condition c.binding)

-- the counting changes of an instance
abbrev pub counting_changes : Task → Instance → List Change
counting_changes task i = filter (counts task) (changes_of_instance task i)

-- the formula is literally `(and)`
abbrev pub is_empty_and : Formula → Bool
is_empty_and (and no_formula) = true
is_empty_and _ = false

-- a change is unconditional if its condition is `(and)`, as it is outside a `when`
abbrev pub is_unconditional : Change → Bool
is_unconditional c = is_empty_and c.condition

-- an instance that is not kept is applicable in no state with the initial static atoms
abbrev pub StaticallyFalseIsNotApplicable : Type 0
StaticallyFalseIsNotApplicable =
    (task : Task) (i : Instance) (state : State) → HasInitialStatics task state → is_kept task i ≡ false → step task state i ≡ None

-- in no such state does the condition of a change hold that does not count
abbrev pub OnlyCountingChangesAreMade : Type 0
OnlyCountingChangesAreMade =
    (task : Task) (c : Change) (state : State) → HasInitialStatics task state → counts task c ≡ false → holds task c.condition c.binding state ≡ false
