use Rattle.devices.specs.Devices.{IsWritten}
use Rattle.planner_main.proofs.ProgramWords.{fault_reported}
use Rattle.planner_main.proofs.failures.report_failure.Goals as goal

pub returns-in-Text-At-clause-said : goal.returns-in-Text-At-clause-said
returns-in-Text-At-clause-said g c =
    let is_at = rw c.in-Text-At.is at c.in-Text-At.field-0-is in
    let err = c.report_fault.new.err in
    fault_reported (IsWritten g.E.Sink.may_lack_memory (g.E.Sink.failures c.args.err.now) (g.E.Sink.failures err) (g.E.Sink.taken c.args.err.now) (g.E.Sink.taken err))
    _ c.args.failure c.in-Text-At.field-0 c.in-Text-At.file c.in-Text-At.code c.in-Text-At.span c.in-Text-At.is is_at c.report_fault.ensures
