use Rattle.std.proofs.Common.{◌≡◌, drop}
use Rattle.std.specs.List.{list_any}
use Rattle.task.specs.Task.{task_of}
use Rattle.model.specs.Task.{Schema}
use Rattle.explain_tasks.specs.Costs.{is_costly}
use Rattle.explain_tasks.proofs.costs.some_is_costly.Given as goal

-- the remaining actions decide
abbrev pub invariant-loop-number : goal.invariant-loop-number
invariant-loop-number l =
    list_any (λ (s : Schema). is_costly s.increase) (task_of l.task).schemas
    ≡ list_any (λ (s : Schema). is_costly s.increase) (drop l.number (task_of l.task).schemas)
