use Rattle.std.proofs.Common.{◌≡◌, ◌++◌, map, take}
use Rattle.std.specs.List.{flat_map}
use Rattle.task.specs.Task.{task_of}
use Rattle.task.specs.TaskParts.{object_of}
use Rattle.model.specs.PlanWriting.{object_text}
use Rattle.task.proofs.task.Task.add_names.Given as goal

-- the text has the names so far
abbrev pub invariant-loop-object : goal.invariant-loop-object
invariant-loop-object l =
    l.text.items ≡ l.initial.text.items ++ flat_map (object_text (task_of l.self)) (map object_of (take l.object-index l.objects))
