use Rattle.std.proofs.lemmas.Result.{err_from_is_err_and}
use Rattle.formulas.specs.State.{plan_of}
use Rattle.task.specs.Task.{task_of}
use Rattle.file_answers.proofs.validating.verdict_on.Goals as goal

pub returns-in_err-plan-clause-refused : goal.returns-in_err-plan-clause-refused
returns-in_err-plan-clause-refused c = λ domain problem is.
    let p = err_from_is_err_and c.from_residual.result c.from_residual.ensures.1 in
    rw (p.1, p.2) (c.in_err-plan.ensures.refused domain problem is)

pub returns-in_err-validate-clause-refused : goal.returns-in_err-validate-clause-refused
returns-in_err-validate-clause-refused c = λ domain problem is.
    let p = err_from_is_err_and c.from_residual-in_err-validate.result c.from_residual-in_err-validate.ensures.1 in
    rw (p.1, p.2) tt

pub returns-clause-verdict : goal.returns-clause-verdict
returns-clause-verdict c = λ domain problem is. record {
  task = task_of c.args.task.now;
  steps = plan_of c.in_ok-plan.plan;
  are_read = record { is_task = is; is_plan = c.in_ok-plan.ensures.plan };
  is_true = c.in_ok-validate.ensures;
}
