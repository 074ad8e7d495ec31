use Rattle.std.proofs.lemmas.Result.{err_from_is_err_and}
use Rattle.file_answers.proofs.FilesRead.{task_reported, none_reported, none_reported_in}
use Rattle.file_answers.proofs.validating.validate_files.Goals as goal

pub returns-in_err-task-clause-refused : goal.returns-in_err-task-clause-refused
returns-in_err-task-clause-refused c =
    let p = err_from_is_err_and c.from_residual.result c.from_residual.ensures.1 in
    rw (p.1, p.2) (task_reported c.args.domain.now c.args.problem.now c.args.plan.now _ c.in_err-task.ensures.refused)

pub returns-in_err-task-clause-taken : goal.returns-in_err-task-clause-taken
returns-in_err-task-clause-taken c = λ task steps are.
    let p = err_from_is_err_and c.from_residual.result c.from_residual.ensures.1 in
    rw (p.1, p.2)
    (none_reported c.args.domain.now c.args.problem.now c.args.plan.now _ (task_reported c.args.domain.now c.args.problem.now c.args.plan.now _ c.in_err-task.ensures.refused) task steps are)

pub returns-clause-verdict : goal.returns-clause-verdict
returns-clause-verdict c = c.verdict_on.ensures.verdict c.args.domain.now c.args.problem.now c.in_ok-task.ensures.task

pub returns-clause-refused : goal.returns-clause-refused
returns-clause-refused c = c.verdict_on.ensures.refused c.args.domain.now c.args.problem.now c.in_ok-task.ensures.task

pub returns-clause-taken : goal.returns-clause-taken
returns-clause-taken c = λ task steps are.
    none_reported_in c.args.domain.now c.args.problem.now c.args.plan.now c.verdict_on.result
    (c.verdict_on.ensures.refused c.args.domain.now c.args.problem.now c.in_ok-task.ensures.task) task steps are
