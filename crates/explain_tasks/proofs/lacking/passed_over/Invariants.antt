use Rattle.std.proofs.Common.{◌≡◌}
use Rattle.task.specs.Task.{task_of}
use Rattle.explain_tasks.specs.Costs.{are_few}
use Rattle.explain_tasks.specs.Unused.{without}
use Rattle.explain_tasks.proofs.lacking.passed_over.Given as goal

-- the actions so far
abbrev pub invariant-loop-number : goal.invariant-loop-number
invariant-loop-number l = l.found.items ≡ without (are_few (task_of l.task) l.most) l.number
