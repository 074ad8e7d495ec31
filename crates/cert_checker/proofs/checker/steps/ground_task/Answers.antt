use Rattle.task.specs.Task.{task_of}
use Rattle.certificate.specs.Certificate.{certificate_of}
use Rattle.cert_checker.proofs.OrderLemmas.{atoms_right, states_right_all, first_limit}
use Rattle.cert_checker.proofs.checker.steps.ground_task.Goals as goal

pub returns-in-Err-At-clause-first : goal.returns-in-Err-At-clause-first
returns-in-Err-At-clause-first c =
    λ plan.
    let task = task_of c.args.task.now in
    let cert = certificate_of c.args.cert.now in
    first_limit task cert plan c.args.max_instances (atoms_right task cert c.requires.atoms) (states_right_all task cert c.requires.distinct c.requires.allowed)
