use Rattle.task.specs.Task.{task_of, variable_names_of}
use Rattle.formulas.specs.State.{plan_of}
use Rattle.explain_plans.specs.Explanations as plans
use Rattle.file_answers.specs.ExplanationLines.{named_of}
use Rattle.file_answers.specs.StepLines.{is_traced}
use Rattle.file_answers.proofs.ExplanationLemmas.{explained_reported, step_of_text}
use Rattle.file_answers.proofs.explaining.of_plan.explain_steps.Goals as goal

pub explain_verdict-requires-clause-step : goal.explain_verdict-requires-clause-step
explain_verdict-requires-clause-step c =
    step_of_text (task_of c.args.task.now) c.args.file.file.text.now (plan_of c.args.plan.now) (plans.verdict_of c.in_ok-explained.explained) c.requires.text
    c.in_ok-explained.ensures.verdict

pub returns : goal.returns
returns c =
    explained_reported (task_of c.args.task.now) (variable_names_of c.args.task.now) (plan_of c.args.plan.now) (is_traced c.args.file.lines) (named_of c.args.file.file) c.in_ok-explained.explained
    c.in_ok-explained.ensures.verdict c.in_ok-explained.ensures.explained c.explain_verdict.result c.explain_verdict.ensures
