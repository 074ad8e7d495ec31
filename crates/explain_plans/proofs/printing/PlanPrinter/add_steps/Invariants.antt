use Rattle.std.proofs.Common.{◌≡◌, ◌≤◌, ◌*◌, drop, ◌++◌}
use Rattle.task.specs.Task.{task_of}
use Rattle.formulas.specs.State.{plan_of}
use Rattle.explain_plans.specs.PlanLines.{cost_lines}
use Rattle.explain_plans.proofs.printing.PlanPrinter.add_steps.Given as goal

-- the lines of the steps so far are added, and those of the others are left
abbrev pub invariant-loop-index : goal.invariant-loop-index
invariant-loop-index l =
    (l.total ≤ l.index * 4294967295)
    × (l.text.items ++ cost_lines (task_of l.self.task.now) l.index l.total (drop l.index (plan_of l.self.plan.now)) (drop l.index l.costs)
    ≡ l.initial.text.items ++ cost_lines (task_of l.self.task.now) 0 0 (plan_of l.self.plan.now) l.costs)
