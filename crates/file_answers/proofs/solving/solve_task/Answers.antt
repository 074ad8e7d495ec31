use Rattle.task.specs.Task.{task_of}
use Rattle.solver.specs.Said.{IsTrueLine}
use Rattle.devices.proofs.ProgressLemmas.{continues_of_more}
use Rattle.file_answers.specs.SaidOf.{IsTrueLineOf}
use Rattle.file_answers.proofs.solving.solve_task.Goals as goal

pub returns-in-Ok-clause-said : goal.returns-in-Ok-clause-said
returns-in-Ok-clause-said g c = λ domain problem is.
    continues_of_more (IsTrueLine (task_of c.args.task) c.args.limits.seconds c.args.limits.states c.args.limits.instances) (IsTrueLineOf domain problem c.args.limits.seconds c.args.limits.states c.args.limits.instances) _ _ _ _ _ (λ line true_line. (task_of c.args.task, is, true_line)) c.solve_and_say.ensures.said

pub returns-in-Err-clause-said : goal.returns-in-Err-clause-said
returns-in-Err-clause-said g c = λ domain problem is.
    continues_of_more (IsTrueLine (task_of c.args.task) c.args.limits.seconds c.args.limits.states c.args.limits.instances) (IsTrueLineOf domain problem c.args.limits.seconds c.args.limits.states c.args.limits.instances) _ _ _ _ _ (λ line true_line. (task_of c.args.task, is, true_line)) c.solve_and_say.ensures.said
