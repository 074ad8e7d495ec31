use Rattle.std.proofs.Common.{sym, subst}
use Rattle.std.specs.Prelude.{OnOk}
use Rattle.certificate.specs.Certificate.{certificate_of}
use Rattle.solver.specs.Said.{HasEnded}
use Rattle.solver.specs.declared.answer.Answer.{Answer}
use Rattle.solver.specs.Solver.{IsTrueAnswer}
use Rattle.solver.proofs.EndLemmas.{ends_by}
use Rattle.solver.proofs.answer.say_end.Goals as goal

pub returns-in-Plan-clause-ended : goal.returns-in-Plan-clause-ended
returns-in-Plan-clause-ended g c =
    subst (λ (a : Answer). OnOk c.say.result (HasEnded g.E.Sink.may_lack_memory (g.E.Sink.failures c.say.new.err) (g.E.Sink.taken c.say.new.err) a)) (sym (c.in-Plan.is))
    (ends_by c.say.result _ _ _ _ _ c.end_of.result (certificate_of c.in-Plan.cert) c.end_of.ensures c.say.ensures.written)

pub returns-in-Unsolvable-clause-ended : goal.returns-in-Unsolvable-clause-ended
returns-in-Unsolvable-clause-ended g c =
    subst (λ (a : Answer). OnOk c.say-in-Unsolvable.result (HasEnded g.E.Sink.may_lack_memory (g.E.Sink.failures c.say-in-Unsolvable.new.err) (g.E.Sink.taken c.say-in-Unsolvable.new.err) a)) (sym (c.in-Unsolvable.is))
    (ends_by c.say-in-Unsolvable.result _ _ _ _ _ c.end_of-in-Unsolvable.result (certificate_of c.in-Unsolvable.cert) c.end_of-in-Unsolvable.ensures c.say-in-Unsolvable.ensures.written)

pub returns-in-Unknown-clause-ended : goal.returns-in-Unknown-clause-ended
returns-in-Unknown-clause-ended g c =
    subst (λ (a : Answer). OnOk c.say_limit.result (HasEnded g.E.Sink.may_lack_memory (g.E.Sink.failures c.say_limit.new.err) (g.E.Sink.taken c.say_limit.new.err) a)) (sym c.in-Unknown.is) c.say_limit.ensures.ended

pub returns-in-Unknown-clause-said : goal.returns-in-Unknown-clause-said
returns-in-Unknown-clause-said g c = λ task seconds states instances is.
    c.say_limit.ensures.said task seconds states instances (subst (IsTrueAnswer task seconds states instances) c.in-Unknown.is is)
