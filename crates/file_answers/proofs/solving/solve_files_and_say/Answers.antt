use Rattle.std.proofs.lemmas.Result.{err_from_is_err_and, IfOk-weaker}
use Rattle.task.specs.Task.{task_of}
use Rattle.model.proofs.TaskNames.{task_has_names}
use Rattle.model.specs.Files.{IsTaskFault}
use Rattle.file_answers.proofs.FilesRead.{none_reported_of_task, none_refused}
use Rattle.file_answers.proofs.solving.solve_files_and_say.Goals as goal

pub returns-in_err-task-clause-refused : goal.returns-in_err-task-clause-refused
returns-in_err-task-clause-refused g c =
    let p = err_from_is_err_and c.from_residual.result c.from_residual.ensures.1 in
    rw (p.1, p.2) c.in_err-task.ensures.refused

pub returns-in_err-task-clause-taken : goal.returns-in_err-task-clause-taken
returns-in_err-task-clause-taken g c = λ task is.
    let p = err_from_is_err_and c.from_residual.result c.from_residual.ensures.1 in
    rw (p.1, p.2) (none_reported_of_task c.args.files.domain.now c.args.files.problem.now _ c.in_err-task.ensures.refused task is)

pub solve_task-requires : goal.solve_task-requires
solve_task-requires g c = task_has_names c.args.files.domain.now c.args.files.problem.now (task_of c.in_ok-task.task) c.in_ok-task.ensures.task

pub returns-clause-task : goal.returns-clause-task
returns-clause-task g c = c.solve_task.ensures.task c.args.files.domain.now c.args.files.problem.now c.in_ok-task.ensures.task

pub returns-clause-answer : goal.returns-clause-answer
returns-clause-answer g c = c.solve_task.ensures.answer

pub returns-clause-refused : goal.returns-clause-refused
returns-clause-refused g c = none_refused (IsTaskFault c.args.files.domain.now c.args.files.problem.now) c.solve_task.result c.solve_task.ensures.memory

pub returns-clause-taken : goal.returns-clause-taken
returns-clause-taken g c = λ task is. c.solve_task.ensures.memory

pub returns-clause-names : goal.returns-clause-names
returns-clause-names g c =
    IfOk-weaker c.solve_task.result _ _ (λ s is. task_has_names c.args.files.domain.now c.args.files.problem.now (task_of s.task) is)
    (c.solve_task.ensures.task c.args.files.domain.now c.args.files.problem.now c.in_ok-task.ensures.task)

pub returns-clause-said : goal.returns-clause-said
returns-clause-said g c = c.solve_task.ensures.said c.args.files.domain.now c.args.files.problem.now c.in_ok-task.ensures.task

pub returns-clause-ended : goal.returns-clause-ended
returns-clause-ended g c = c.solve_task.ensures.ended
