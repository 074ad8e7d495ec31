use Rattle.std.proofs.Common.{◌≡◌, false, take}
use Rattle.std.specs.List.{list_any}
use Rattle.task.specs.Task.{task_of}
use Rattle.task.specs.TaskParts.{union_of}
use Rattle.explain_tasks.specs.Inhabited.{is_uninhabited}
use Rattle.explain_tasks.proofs.inhabited.some_is_uninhabited.Given as goal

-- there is an object of each so far
abbrev pub invariant-loop-types : goal.invariant-loop-types
invariant-loop-types l = list_any (λ one. is_uninhabited (task_of l.task) (union_of one)) (take l.types-index l.unions) ≡ false
