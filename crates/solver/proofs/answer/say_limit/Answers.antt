use Rattle.std.proofs.Common.{sym, subst}
use Rattle.std.specs.Prelude.{OnOk}
use Rattle.certificate.specs.Certificate.{certificate_of}
use Rattle.solver.specs.Said.{HasEnded}
use Rattle.solver.specs.declared.answer.Answer.TheVariants.{Unknown}
use Rattle.solver.specs.declared.answer.Exceeded.{Exceeded}
use Rattle.devices.specs.Progress.{stream}
use Rattle.solver.specs.declared.reports.RaisedBy.TheVariants as raised_by
use Rattle.solver.proofs.EndLemmas.{ends_at_limit, ends_by_limit}
use Rattle.solver.proofs.answer.say_limit.Goals as goal

pub returns-in_ok-say-in-States-clause-ended : goal.returns-in_ok-say-in-States-clause-ended
returns-in_ok-say-in-States-clause-ended g c =
    subst (λ (l : Exceeded). OnOk c.say-in-States.result (HasEnded g.E.Sink.may_lack_memory (g.E.Sink.failures c.say-in-States.new.err) (g.E.Sink.taken c.say-in-States.new.err) (Unknown l))) (sym c.in-States.is)
    (ends_at_limit c.say-in-States.result _ _ _ _ _ c.end_of.result (certificate_of c.in-States.cert) raised_by.States
    (stream (g.E.Sink.failures c.args.err.now) (g.E.Sink.taken c.args.err.now), c.in_ok-say-in-States.ensures.written) c.end_of.ensures c.say-in-States.ensures.written)

pub returns-in_ok-say-in-Time-clause-ended : goal.returns-in_ok-say-in-Time-clause-ended
returns-in_ok-say-in-Time-clause-ended g c =
    subst (λ (l : Exceeded). OnOk c.say-in-Time-2.result (HasEnded g.E.Sink.may_lack_memory (g.E.Sink.failures c.say-in-Time-2.new.err) (g.E.Sink.taken c.say-in-Time-2.new.err) (Unknown l))) (sym c.in-Time.is)
    (ends_at_limit c.say-in-Time-2.result _ _ _ _ _ c.end_of-in-Time.result (certificate_of c.in-Time.cert) raised_by.Seconds
    (stream (g.E.Sink.failures c.args.err.now) (g.E.Sink.taken c.args.err.now), c.in_ok-say-in-Time.ensures.written) c.end_of-in-Time.ensures c.say-in-Time-2.ensures.written)

pub returns-in-Instances-clause-ended : goal.returns-in-Instances-clause-ended
returns-in-Instances-clause-ended g c =
    subst (λ (l : Exceeded). OnOk c.say-in-Instances.result (HasEnded g.E.Sink.may_lack_memory (g.E.Sink.failures c.say-in-Instances.new.err) (g.E.Sink.taken c.say-in-Instances.new.err) (Unknown l))) (sym c.in-Instances.is)
    (ends_by_limit c.say-in-Instances.result _ _ _ _ _ raised_by.Instances c.say-in-Instances.ensures.written)
