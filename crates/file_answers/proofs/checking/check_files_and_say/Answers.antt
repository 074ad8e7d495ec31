use Rattle.std.proofs.lemmas.Result.{err_from_is_err_and, IfOk-weaker}
use Rattle.devices.specs.Progress.{nothing}
use Rattle.task.specs.Task.{task_of}
use Rattle.model.proofs.TaskNames.{task_has_names}
use Rattle.file_answers.specs.Files.{text_in}
use Rattle.file_answers.proofs.FilesRead.{task_input}
use Rattle.file_answers.proofs.CheckedLemmas.{none_reported_of_inputs, none_reported_of_inputs_in}
use Rattle.file_answers.proofs.checking.check_files_and_say.Goals as goal

pub returns-in_err-task-clause-refused : goal.returns-in_err-task-clause-refused
returns-in_err-task-clause-refused g c =
    let p = err_from_is_err_and c.from_residual.result c.from_residual.ensures.1 in
    rw (p.1, p.2) (task_input c.args.inputs.task.domain.now c.args.inputs.task.problem.now (text_in c.args.inputs.plan) _ c.in_err-task.ensures.refused)

pub returns-in_err-task-clause-taken : goal.returns-in_err-task-clause-taken
returns-in_err-task-clause-taken g c = λ task steps is handed.
    let p = err_from_is_err_and c.from_residual.result c.from_residual.ensures.1 in
    rw (p.1, p.2)
    (none_reported_of_inputs c.args.inputs.task.domain.now c.args.inputs.task.problem.now (text_in c.args.inputs.plan) _ (task_input c.args.inputs.task.domain.now c.args.inputs.task.problem.now (text_in c.args.inputs.plan) _ c.in_err-task.ensures.refused) task steps is handed)

pub returns-clause-task : goal.returns-clause-task
returns-clause-task g c = c.check_task.ensures.task c.args.inputs.task.domain.now c.args.inputs.task.problem.now c.in_ok-task.ensures.task

pub returns-clause-answer : goal.returns-clause-answer
returns-clause-answer g c = c.check_task.ensures.answer

pub check_task-requires-clause-names : goal.check_task-requires-clause-names
check_task-requires-clause-names g c = task_has_names c.args.inputs.task.domain.now c.args.inputs.task.problem.now (task_of c.in_ok-task.task) c.in_ok-task.ensures.task

pub returns-clause-refused : goal.returns-clause-refused
returns-clause-refused g c = c.check_task.ensures.refused c.args.inputs.task.domain.now c.args.inputs.task.problem.now c.in_ok-task.ensures.task

pub returns-clause-taken : goal.returns-clause-taken
returns-clause-taken g c = λ task steps is handed.
    none_reported_of_inputs_in c.args.inputs.task.domain.now c.args.inputs.task.problem.now (text_in c.args.inputs.plan) c.check_task.result
    (c.check_task.ensures.refused c.args.inputs.task.domain.now c.args.inputs.task.problem.now c.in_ok-task.ensures.task) task steps is handed

pub returns-clause-names : goal.returns-clause-names
returns-clause-names g c =
    IfOk-weaker c.check_task.result _ _ (λ checked is. task_has_names c.args.inputs.task.domain.now c.args.inputs.task.problem.now (task_of checked.task) is)
    (c.check_task.ensures.task c.args.inputs.task.domain.now c.args.inputs.task.problem.now c.in_ok-task.ensures.task)

pub returns-in_err-task-clause-said : goal.returns-in_err-task-clause-said
returns-in_err-task-clause-said g c = nothing

pub returns-clause-said : goal.returns-clause-said
returns-clause-said g c = c.check_task.ensures.said c.args.inputs.task.domain.now c.args.inputs.task.problem.now c.in_ok-task.ensures.task
