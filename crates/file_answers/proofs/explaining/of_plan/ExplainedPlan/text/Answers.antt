use Rattle.std.proofs.Common.{subst, sym}
use Rattle.std.specs.Prelude.{IfOk}
use Rattle.std.specs.String.{string_bytes}
use Rattle.std.proofs.lemmas.Result.{IfOk-weaker}
use Rattle.task.specs.Task.{task_of}
use Rattle.formulas.specs.State.{plan_of}
use Rattle.file_answers.specs.ExplanationLines.{SayPlanAs}
use Rattle.file_answers.specs.StepLines.{is_traced}
use Rattle.file_answers.specs.declared.explaining.step_lines.StepLines.{StepLines}
use Rattle.file_answers.proofs.ExplanationLemmas.{traced_said}
use Rattle.file_answers.proofs.explaining.of_plan.ExplainedPlan.text.Goals as goal

pub returns-in-Costs : goal.returns-in-Costs
returns-in-Costs c =
    subst (λ (lines : StepLines). IfOk c.plain_text.result (λ text. SayPlanAs (is_traced lines) c.args.location.now (task_of c.args.self.task.now) (plan_of c.args.self.plan.now) c.args.self.explained.now (string_bytes text)))
    (sym c.in-Costs.is) c.plain_text.ensures

pub returns-in_ok-verdict-in-Trace : goal.returns-in_ok-verdict-in-Trace
returns-in_ok-verdict-in-Trace c =
    subst (λ (lines : StepLines). IfOk c.joined.result (λ text. SayPlanAs (is_traced lines) c.args.location.now (task_of c.args.self.task.now) (plan_of c.args.self.plan.now) c.args.self.explained.now (string_bytes text)))
    (sym c.in-Trace.is)
    (IfOk-weaker c.joined.result _ _
    (λ text is. traced_said c.args.location.now (task_of c.args.self.task.now) (plan_of c.args.self.plan.now) c.args.self.explained.now (string_bytes c.in_ok-trace-in-Trace.trace) (string_bytes c.in_ok-verdict-in-Trace.verdict) c.as_str.result.now (string_bytes text)
    c.in_ok-trace-in-Trace.ensures c.in_ok-verdict-in-Trace.ensures c.as_str.ensures.value is)
    c.joined.ensures)
