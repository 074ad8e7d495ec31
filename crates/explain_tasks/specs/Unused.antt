-- Declarations of a task that are not used.
use Rattle.std.specs.Prelude.{ℕ, Bool, not, ◌==◌, List, length, filter}
use Rattle.std.specs.List.{list_any, range_with_len}
use Rattle.model.specs.Task.{Task, Instance}
use Rattle.model.specs.StaticallyFalse.{kept_instances}
use Rattle.formulas.specs.Mentions.{is_asking, is_naming}
use Rattle.explain_tasks.specs.Mentions.{task_mentions}

-- some precondition, some condition of an effect or the goal has an atom with the predicate
abbrev pub is_asked_for : Task → ℕ → Bool
is_asked_for t predicate = list_any (is_asking predicate) (task_mentions t)

-- an initial fact, the goal or an action names the object
abbrev pub is_named : Task → ℕ → Bool
is_named t object = list_any (is_naming object) (task_mentions t)

abbrev pub is_of_schema : ℕ → Instance → Bool
is_of_schema schema i = i.schema == schema

-- an instance of the schema is kept: not all are statically inapplicable
abbrev pub has_kept_instance : Task → ℕ → Bool
has_kept_instance t schema = list_any (is_of_schema schema) (kept_instances t)

-- the numbers, in order, that fail the test
abbrev pub without : (ℕ → Bool) → ℕ → List ℕ
without used count = filter (λ n. not (used n)) (range_with_len 0 count)

-- the unused predicates, the unnamed objects, and the actions that are never applicable
abbrev pub unasked_predicates : Task → List ℕ
unasked_predicates t = without (is_asked_for t) (length t.predicates)

abbrev pub unnamed_objects : Task → List ℕ
unnamed_objects t = without (is_named t) (length t.objects)

abbrev pub idle_actions : Task → List ℕ
idle_actions t = without (has_kept_instance t) (length t.schemas)
