-- The text that the plan writer produces: each step on a line, in lower case, with one blank between words, and the last line `;
-- cost = N`; every line ends with LF. And the conditions on a task's names under which each such text reads back as its list of
-- instances (`PlanText`).
use Rattle.std.specs.Prelude.{ℕ, Bool, true, ◌&&◌, not, nat_le, List, [], ◌∷◌, ◌++◌, codes, length, map, slice_get}
use Rattle.std.specs.Char.{to_ascii_lowercase}
use Rattle.std.specs.Fmt.{decimal}
use Rattle.std.specs.List.{flat_map, list_all, list_any}
use Rattle.std.specs.Option.{option_map_or}
use Rattle.model.specs.Task.{Name, Object, Schema, Task, Instance}
use Rattle.model.specs.Words.{is_name, longest_run}
use Rattle.model.specs.Resolution.{is_same}
use Rattle.model.specs.PlanText.{schema_names, object_names}

-- ---- the writer's text

-- the name of the schema with this number; empty if there is none
abbrev pub schema_name : Task → ℕ → Name
schema_name task number = option_map_or (λ (s : Schema). s.name) (slice_get task.schemas number) []

-- the name of the object with this number; empty if there is none
abbrev pub object_name : Task → ℕ → Name
object_name task number = option_map_or (λ (o : Object). o.name) (slice_get task.objects number) []

-- a blank and the object's name
abbrev pub object_text : Task → ℕ → List ℕ
object_text task number = codes " " ++ object_name task number

-- a step: the names of its schema and of its objects, in parentheses
abbrev pub step_text : Task → Instance → List ℕ
step_text task i = codes "(" ++ schema_name task i.schema ++ flat_map (object_text task) i.objects ++ codes ")"

-- a step on a line of its own
abbrev pub step_line : Task → Instance → List ℕ
step_line task i = step_text task i ++ codes "\n"

-- the last line: the cost, in decimal digits
abbrev pub cost_line : ℕ → List ℕ
cost_line cost = codes "; cost = " ++ decimal cost ++ codes "\n"

-- the steps, followed by their cost
abbrev pub plan_text : Task → List Instance → ℕ → List ℕ
plan_text task plan cost = flat_map (step_line task) plan ++ cost_line cost

-- ---- names that read back

-- a name in lower case, no longer than a run may be
abbrev pub is_lower_name : Name → Bool
is_lower_name name = is_name name && is_same (map to_ascii_lowercase name) name && nat_le (length name) longest_run

-- the names are pairwise different
abbrev pub differ : List Name → Bool
differ [] = true
differ (name ∷ names) = not (list_any (is_same name) names) && differ names

abbrev pub are_lower_names : List Name → Bool
are_lower_names names = list_all is_lower_name names && differ names

-- the schemas have valid, pairwise different names, and so have the objects
abbrev pub has_names : Task → Bool
has_names task = are_lower_names (schema_names task) && are_lower_names (object_names task)
