-- All instances of a task's schemas, in order, and the applicable ones in a state.
use Rattle.std.specs.Prelude.{ℕ, ◌+◌, List, [], ◌∷◌, ◌++◌, map, Option}
use Rattle.std.specs.List.{flat_map, filter_map}
use Rattle.std.specs.Option.{option_map}
use Rattle.model.specs.Task.{Schema, Task, Instance}
use Rattle.model.specs.Meaning.{State, objects_of, step}

-- all lists with one element of the first list, one of the second, and so on, in lexicographic order
abbrev pub product : List (List ℕ) → List (List ℕ)
product [] = [] ∷ []
product (firsts ∷ others) = flat_map (λ first. map (λ rest. first ∷ rest) (product others)) firsts

-- the instances of the schema with this number
abbrev pub instances_of_schema : Task → ℕ → Schema → List Instance
instances_of_schema task number schema =
    map (λ (objects : List ℕ). record { schema = number; objects = objects }) (product (map (objects_of task) schema.parameters))

abbrev pub instances_from : Task → ℕ → List Schema → List Instance
instances_from task number [] = []
instances_from task number (schema ∷ rest) = instances_of_schema task number schema ++ instances_from task (number + 1) rest

-- Every instance of the task: schema by schema in the domain's order, and within a schema in lexicographic order of the object
-- numbers.
abbrev pub all_instances : Task → List Instance
all_instances task = instances_from task 0 task.schemas

-- the instance with its successor state, if it is applicable
abbrev pub leading_to : Task → State → Instance → Option (Instance × State)
leading_to task state i = option_map (λ (next : State). (i, next)) (step task state i)

-- the applicable instances in the state, in order, each with its successor state
abbrev pub successors_of : Task → State → List (Instance × State)
successors_of task state = filter_map (leading_to task state) (all_instances task)
