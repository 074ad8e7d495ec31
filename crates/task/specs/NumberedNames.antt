-- Names by number, each empty if no part of the task has the number, and atoms as texts. The names of objects and schemas are in the
-- model's `PlanWriting`.
use Rattle.std.specs.Prelude.{ℕ, List, [], ◌++◌, codes, slice_get}
use Rattle.std.specs.List.{flat_map}
use Rattle.std.specs.Option.{option_map_or}
use Rattle.model.specs.PlanWriting.{object_text}
use Rattle.model.specs.Task.{Atom, Name, ObjectType, Predicate, Task}

abbrev pub type_name : Task → ℕ → Name
type_name task number = option_map_or (λ (t : ObjectType). t.name) (slice_get task.types number) []

abbrev pub predicate_name : Task → ℕ → Name
predicate_name task number = option_map_or (λ (p : Predicate). p.name) (slice_get task.predicates number) []

-- functions have numbers of their own
abbrev pub function_name : Task → ℕ → Name
function_name task number = option_map_or (λ (f : Predicate). f.name) (slice_get task.functions number) []

-- a name and objects, in parentheses
abbrev pub form_text : Task → Name → (objects : List ℕ) → List ℕ
form_text task name objects = codes "(" ++ (name ++ (flat_map (object_text task) objects ++ codes ")"))

abbrev pub ground_text : Task → Atom → List ℕ
ground_text task a = form_text task (predicate_name task a.predicate) a.objects
