use Rattle.std.proofs.Common.{◌≡◌, ◌≤◌, ◌*◌, drop, ◌++◌}
use Rattle.task.specs.Task.{task_of}
use Rattle.formulas.specs.State.{plan_of, state_of}
use Rattle.explain_plans.specs.Traces.{trace_lines, trace_text}
use Rattle.explain_plans.proofs.printing.PlanPrinter.add_trace.Given as goal

-- the lines of the steps so far are added, and those of the others are left; each cost is at most what a u32 can be
abbrev pub invariant-loop-index : goal.invariant-loop-index
invariant-loop-index l = record {
  few : l.total ≤ l.index * 4294967295;
  same : l.text.items ++ trace_lines (task_of l.self.task.now) l.index l.total (state_of l.state) (drop l.index (plan_of l.self.plan.now))
      ≡ l.initial.text.items ++ trace_text (task_of l.self.task.now) (plan_of l.self.plan.now);
}
