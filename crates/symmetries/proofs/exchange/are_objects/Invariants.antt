use Rattle.std.proofs.Common.{◌≡◌, true, take}
use Rattle.std.specs.List.{list_all}
use Rattle.task.specs.Task.{task_of}
use Rattle.task.specs.TaskParts.{object_of}
use Rattle.symmetries.specs.ObjectPairs.{is_object}
use Rattle.symmetries.proofs.exchange.are_objects.Given as goal

-- the objects so far belong to the task
abbrev pub invariant-loop-object : goal.invariant-loop-object
invariant-loop-object l = list_all (λ o. is_object (task_of l.task) (object_of o)) (take l.object-index l.objects) ≡ true
