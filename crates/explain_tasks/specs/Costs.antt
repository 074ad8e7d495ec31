-- Ignored costs, and costs without a value.
use Rattle.std.specs.Prelude.{◌≡◌, ℕ, Bool, true, false, not, ◌&&◌, ◌==◌, ◌<◌, nat_lt, List, [], ◌∷◌, ◌++◌, length, slice_get, if◌then◌else◌, Contains, Option, Some, None}
use Rattle.std.specs.List.{fold, list_all, list_any, flat_map, range_with_len}
use Rattle.std.specs.Option.{option_and_then, option_map_or}
use Rattle.model.specs.Task.{Task, Term, Increase, by_number, by_function, Schema, Instance}
use Rattle.model.specs.Meaning.{has_amount, is_instance, object_of}
use Rattle.model.specs.Instances.{instances_of_schema}
use Rattle.model.specs.StaticallyFalse.{is_statically_false}
use Rattle.explain_tasks.specs.Unused.{without}

-- the schema increases the total cost, by more than 0 or by a function
abbrev pub is_costly : Increase → Bool
is_costly (by_number amount) = not (amount == 0)
is_costly (by_function f) = true

-- some action increases the total cost although it is not minimized
abbrev pub ignores_costs : Task → Bool
ignores_costs t = not t.has_metric && list_any (λ (s : Schema). is_costly s.increase) t.schemas

-- the total cost is minimized, but no action increases it
abbrev pub lacks_costs : Task → Bool
lacks_costs t = t.has_metric && not (list_any (λ (s : Schema). is_costly s.increase) t.schemas)

-- An instance lacks a value: its cost increase has none, which is the only reason why it is never applicable, since its
-- precondition is not statically false.
abbrev pub lacks_value : Task → Instance → Bool
lacks_value t i =
    is_instance t i
    && option_map_or (λ (s : Schema). not (has_amount t s i.objects) && not (is_statically_false t s.precondition i.objects)) (slice_get t.schemas i.schema) false

abbrev pub is_same_term : (a b : List ℕ) → Term → Bool
is_same_term a b term = object_of a term == object_of b term

-- both bindings give the same function for this increase
abbrev pub is_same_value : Increase → (a b : List ℕ) → Bool
is_same_value (by_number amount) a b = true
is_same_value (by_function f) a b = list_all (is_same_term a b) f.terms

-- both instances are of the same schema and lack the same value
abbrev pub lack_the_same : Task → Instance → Instance → Bool
lack_the_same t i j = i.schema == j.schema && option_map_or (λ (s : Schema). is_same_value s.increase i.objects j.objects) (slice_get t.schemas i.schema) false

-- the increase is by a function
abbrev pub is_by_function : Increase → Bool
is_by_function (by_number amount) = false
is_by_function (by_function f) = true

-- the schema with this number, if it increases the total cost by a function
abbrev pub valued_schema : Task → ℕ → Option Schema
valued_schema t number = option_and_then (λ (s : Schema). if is_by_function s.increase then Some s else None) (slice_get t.schemas number)

-- the instances of the schema with this number, if it increases the total cost by a function
abbrev pub valued_instances : Task → ℕ → List Instance
valued_instances t number = option_map_or (instances_of_schema t number) (valued_schema t number) []

-- there are at most this many
abbrev pub are_few : Task → (most : ℕ) → ℕ → Bool
are_few t most number = not (nat_lt most (length (valued_instances t number)))

-- the instances that are checked: all of a schema, or none if there are more than the limit
abbrev pub looked_at : Task → (most : ℕ) → ℕ → List Instance
looked_at t most number = if are_few t most number then valued_instances t number else []

abbrev pub all_looked_at : Task → (most : ℕ) → List Instance
all_looked_at t most = flat_map (looked_at t most) (range_with_len 0 (length t.schemas))

-- the schemas whose instances are not checked
abbrev pub passed_over : Task → (most : ℕ) → List ℕ
passed_over t most = without (are_few t most) (length t.schemas)

-- Some of the instances, each of which lacks a value; while they are below the limit, every instance that lacks a value lacks the
-- same as one of them.
pub record AreLacking (t : Task) (limit : ℕ) (instances found : List Instance) : Type 0 where
  pub true_of_each : list_all (lacks_value t) found ≡ true
  pub each_reported : length found < limit → (i : Instance) → Contains instances i → lacks_value t i ≡ true → list_any (lack_the_same t i) found ≡ true

-- ---- intermediate definitions

-- one more instance is checked
abbrev pub with_lacking : Task → (limit : ℕ) → List Instance → Instance → List Instance
with_lacking t limit found i =
    if (nat_lt (length found) limit && lacks_value t i) && not (list_any (lack_the_same t i) found) then found ++ i ∷ [] else found

abbrev pub lacking_among : Task → (limit : ℕ) → (found instances : List Instance) → List Instance
lacking_among t limit = fold (with_lacking t limit)
