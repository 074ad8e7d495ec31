use Rattle.task.specs.Task.{task_of}
use Rattle.devices.proofs.ProgressLemmas.{said_of_more}
use Rattle.file_answers.proofs.checking.Checker.check_task.Goals as goal

pub returns-in-Ok-clause-said : goal.returns-in-Ok-clause-said
returns-in-Ok-clause-said g c = λ domain problem is. said_of_more (λ line so. (task_of c.args.task, is, so)) c.in-Ok.ensures.said

pub returns-in-Err-clause-said : goal.returns-in-Err-clause-said
returns-in-Err-clause-said g c = λ domain problem is. said_of_more (λ line so. (task_of c.args.task, is, so)) c.in-Err.ensures.said
