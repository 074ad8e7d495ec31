use Rattle.std.proofs.Common.{◌≡◌, take, map}
use Rattle.task.specs.Task.{task_of}
use Rattle.formulas.specs.State.{instance_of}
use Rattle.model.specs.Meaning.{cost_of}
use Rattle.explain_plans.proofs.explanations.costs_of.Given as goal

-- the costs of the steps so far
abbrev pub invariant-loop-step : goal.invariant-loop-step
invariant-loop-step l = l.costs.items ≡ map (λ i. cost_of (task_of l.task) (instance_of i)) (take l.step-index l.steps)
