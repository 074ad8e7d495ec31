use Rattle.devices.specs.Progress.{stream}
use Rattle.solver.proofs.answer.solve_and_say.Goals as goal

pub returns-in_ok-say-in-Err-At-Instances-clause-ended : goal.returns-in_ok-say-in-Err-At-Instances-clause-ended
returns-in_ok-say-in-Err-At-Instances-clause-ended g c =
    (stream (g.E.Sink.failures c.args.err.now) (g.E.Sink.taken c.args.err.now), c.in_ok-say-in-Err-At-Instances.ensures.written)
