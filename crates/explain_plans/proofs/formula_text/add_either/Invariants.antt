use Rattle.std.proofs.Common.{◌≡◌, map, take, ◌++◌}
use Rattle.std.specs.Prelude.{codes}
use Rattle.std.specs.List.{flat_map}
use Rattle.task.specs.Task.{task_of}
use Rattle.task.specs.TaskParts.{type_of}
use Rattle.task.specs.NumberedNames.{type_name}
use Rattle.explain_plans.proofs.formula_text.add_either.Given as goal

-- the names of the types so far are added
abbrev pub invariant-loop-one : goal.invariant-loop-one
invariant-loop-one l =
    l.text.items ≡ l.initial.text.items
    ++ flat_map (λ number. codes " " ++ type_name (task_of l.task) number) (map type_of (take l.one-index l.types))
