use Rattle.file_answers.proofs.FilesRead.{one_task, no_task_fault}
use Rattle.file_answers.proofs.files.one_task.Goals as goal

pub returns-clause-one : goal.returns-clause-one
returns-clause-one c = one_task

pub returns-clause-none : goal.returns-clause-none
returns-clause-none c = no_task_fault
