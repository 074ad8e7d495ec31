use Rattle.std.proofs.Common.{◌≡◌}
use Rattle.std.specs.Prelude.{filter}
use Rattle.std.specs.List.{range_with_len}
use Rattle.task.specs.Task.{task_of}
use Rattle.explain_tasks.specs.Actions.{is_doubtful}
use Rattle.explain_tasks.proofs.actions.doubtful_actions.Given as goal

-- the actions so far of which this is so
abbrev pub invariant-loop-number : goal.invariant-loop-number
invariant-loop-number l = l.found.items ≡ filter (is_doubtful (task_of l.task) l.doubt) (range_with_len 0 l.number)
