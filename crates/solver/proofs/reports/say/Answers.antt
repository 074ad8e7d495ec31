use Rattle.std.proofs.Common.{ℕ, List, ◌∙◌, refl, subst}
use Rattle.devices.specs.Devices.{IsWritten}
use Rattle.solver.specs.Said.{IsTrueLine, line_of}
use Rattle.devices.proofs.ProgressLemmas.{one_line}
use Rattle.solver.proofs.reports.say.Goals as goal

pub returns-in-Ok-clause-said : goal.returns-in-Ok-clause-said
returns-in-Ok-clause-said g c = λ task seconds states instances is.
    let written = subst (λ (line : List ℕ). IsWritten g.E.Sink.may_lack_memory (g.E.Sink.failures c.args.err.now) (g.E.Sink.failures c.say_line.new.err) (g.E.Sink.taken c.args.err.now) (g.E.Sink.taken c.say_line.new.err) line)
    (c.as_bytes.ensures.value ∙ c.in-Ok.ensures) c.say_line.ensures in
    one_line (IsTrueLine task seconds states instances) g.E.Sink.may_lack_memory (g.E.Sink.failures c.args.err.now) (g.E.Sink.taken c.args.err.now) (g.E.Sink.failures c.say_line.new.err) (g.E.Sink.taken c.say_line.new.err)
    (line_of c.args.report) (c.args.report, refl, is) written
