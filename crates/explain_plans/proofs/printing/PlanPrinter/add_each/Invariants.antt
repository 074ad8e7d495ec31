use Rattle.std.proofs.Common.{◌≡◌, map, take, ◌++◌}
use Rattle.task.specs.Task.{task_of}
use Rattle.formulas.specs.State.{plan_of}
use Rattle.explain_plans.specs.Parts.{history_of, part_of}
use Rattle.explain_plans.specs.PlanLines.{reason_lines}
use Rattle.explain_plans.proofs.printing.PlanPrinter.add_each.Given as goal

-- the lines of the parts so far are added
abbrev pub invariant-loop-index : goal.invariant-loop-index
invariant-loop-index l =
    l.text.items ≡ l.initial.text.items
    ++ reason_lines (task_of l.self.task.now) (plan_of l.self.plan.now) (take l.index (map part_of l.parts)) (map history_of l.histories)
