use Rattle.std.proofs.Common.{◌≡◌, false, take}
use Rattle.std.specs.List.{list_any}
use Rattle.task.specs.Task.{task_of}
use Rattle.formulas.specs.State.{instance_of}
use Rattle.explain_tasks.specs.Costs.{lack_the_same}
use Rattle.explain_tasks.proofs.lacking.some_lacks_the_same.Given as goal

-- none so far does
abbrev pub invariant-loop-other : goal.invariant-loop-other
invariant-loop-other l = list_any (λ other. lack_the_same (task_of l.task) (instance_of l.instance) (instance_of other)) (take l.other-index l.found) ≡ false
