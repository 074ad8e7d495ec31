use Rattle.std.proofs.Common.{ap, sym, subst, inl}
use Rattle.command_line.specs.Orders.{Request}
use Rattle.command_line.specs.View.{request_of}
use Rattle.planner_main.specs.Program.{IsFound}
use Rattle.std.proofs.lemmas.Result.{IfErr-weaker}
use Rattle.planner_main.proofs.OrderRequest.{request_of_cert, request_of_check, request_of_explain, request_of_solve}
use Rattle.planner_main.proofs.ProgramWords.{without_fault}
use Rattle.std.specs.Prelude.{IfOk, Result, Ok, Err, ⊤}
use Rattle.devices.specs.Progress.{AreSaid, nothing, stream}
use Rattle.devices.proofs.ProgressLemmas.{said_of_more}
use Rattle.planner_main.specs.Progress.{HasEndedFor, IsProgressOn}
use Rattle.planner_main.specs.declared.failures.Failure.{Failure}
use Rattle.printed_answers.specs.declared.reports.Report.{Report}
use Rattle.file_answers.specs.StepLines.{is_traced}
use Rattle.planner_main.proofs.program.report_of.Goals as goal

whatever : (result : Result Report Failure) → IfOk result (λ _. ⊤)
whatever (Ok found) = tt
whatever (Err failure) = tt

pub returns-in-Validate-clause-found : goal.returns-in-Validate-clause-found
returns-in-Validate-clause-found g c = subst
    (λ (request : Request). IsFound (g.F.Files.contents c.args.files.now) (g.F.Files.is_missing c.args.files.now) (g.F.Files.is_unreadable c.args.files.now) request c.report_of_validate.result)
    (sym (ap request_of c.in-Validate.is))
    (let said = c.report_of_validate.ensures in record { report = said.report; refused = said.refused; unread = said.unread; unreadable = said.unreadable })

pub returns-in-Solve-clause-found : goal.returns-in-Solve-clause-found
returns-in-Solve-clause-found g c = subst
    (λ (request : Request). IsFound (g.F.Files.contents c.args.files.now) (g.F.Files.is_missing c.args.files.now) (g.F.Files.is_unreadable c.args.files.now) request c.report_of_solve.result)
    (request_of_solve c.args.order c.in-Solve.domain c.in-Solve.problem _ _ c.in-Solve.states c.in-Solve.instances c.in-Solve.seconds c.in-Solve.cert_version _ c.in-Solve.progress c.limits_of-limits.result c.in-Solve.is c.limits_of-limits.ensures.states c.limits_of-limits.ensures.instances
    c.limits_of-limits.ensures.seconds c.limits_of-limits.ensures.version)
    (let said = c.report_of_solve.ensures in record { report = said.report; refused = said.refused; unread = said.unread; unreadable = said.unreadable })

pub returns-in-Check-clause-found : goal.returns-in-Check-clause-found
returns-in-Check-clause-found g c = subst
    (λ (request : Request). IsFound (g.F.Files.contents c.args.files.now) (g.F.Files.is_missing c.args.files.now) (g.F.Files.is_unreadable c.args.files.now) request c.report_of_check.result)
    (request_of_check c.args.order c.in-Check.domain c.in-Check.problem c.in-Check.cert c.in-Check.plan c.in-Check.instances _ c.in-Check.progress c.number-instances.result c.in-Check.is c.number-instances.ensures.number)
    (let said = c.report_of_check.ensures in record { report = said.report; refused = said.refused; unread = said.unread; unreadable = said.unreadable })

pub returns-in-Explain-clause-found : goal.returns-in-Explain-clause-found
returns-in-Explain-clause-found g c = subst
    (λ (request : Request). IsFound (g.F.Files.contents c.args.files.now) (g.F.Files.is_missing c.args.files.now) (g.F.Files.is_unreadable c.args.files.now) request c.report_of_explain.result)
    (request_of_explain c.args.order c.in-Explain.domain c.in-Explain.problem c.in-Explain.plan c.in-Explain.trace c.in-Explain.instances _ c.number-max_instances.result (is_traced c.steps_of-steps.result) c.in-Explain.is
    c.number-max_instances.ensures.number c.steps_of-steps.ensures)
    (let said = c.report_of_explain.ensures in record {
      report = said.report;
      refused = IfErr-weaker c.report_of_explain.result _ _ (λ failure is. without_fault failure _ is) said.no_text;
      unread = said.unread;
      unreadable = said.unreadable;
    })

pub returns-in-Validate-clause-progress : goal.returns-in-Validate-clause-progress
returns-in-Validate-clause-progress g c = nothing

pub returns-in-Check-clause-progress : goal.returns-in-Check-clause-progress
returns-in-Check-clause-progress g c =
    subst (λ (request : Request). AreSaid (IsProgressOn (g.F.Files.contents c.args.files.now) request) g.E.Sink.may_lack_memory (stream (g.E.Sink.failures c.args.err.now) (g.E.Sink.taken c.args.err.now))
    (stream (g.E.Sink.failures c.report_of_check.new.err) (g.E.Sink.taken c.report_of_check.new.err)))
    (request_of_check c.args.order c.in-Check.domain c.in-Check.problem c.in-Check.cert c.in-Check.plan c.in-Check.instances _ c.in-Check.progress c.number-instances.result c.in-Check.is c.number-instances.ensures.number)
    c.report_of_check.ensures.progress

pub returns-in-Explain-clause-progress : goal.returns-in-Explain-clause-progress
returns-in-Explain-clause-progress g c = nothing

pub returns-in-Solve-clause-progress : goal.returns-in-Solve-clause-progress
returns-in-Solve-clause-progress g c =
    subst (λ (request : Request). AreSaid (IsProgressOn (g.F.Files.contents c.args.files.now) request) g.E.Sink.may_lack_memory (stream (g.E.Sink.failures c.args.err.now) (g.E.Sink.taken c.args.err.now))
    (stream (g.E.Sink.failures c.report_of_solve.new.err) (g.E.Sink.taken c.report_of_solve.new.err)))
    (request_of_solve c.args.order c.in-Solve.domain c.in-Solve.problem _ _ c.in-Solve.states c.in-Solve.instances c.in-Solve.seconds c.in-Solve.cert_version _ c.in-Solve.progress c.limits_of-limits.result c.in-Solve.is c.limits_of-limits.ensures.states c.limits_of-limits.ensures.instances
    c.limits_of-limits.ensures.seconds c.limits_of-limits.ensures.version)
    (said_of_more (λ line is. inl is) c.report_of_solve.ensures.progress)

pub returns-in-Validate-clause-ended : goal.returns-in-Validate-clause-ended
returns-in-Validate-clause-ended g c =
    subst (λ (request : Request). IfOk c.report_of_validate.result (HasEndedFor request g.E.Sink.may_lack_memory (g.E.Sink.failures c.args.err.now) (g.E.Sink.taken c.args.err.now)))
    (sym (ap request_of c.in-Validate.is)) (whatever c.report_of_validate.result)

pub returns-in-Check-clause-ended : goal.returns-in-Check-clause-ended
returns-in-Check-clause-ended g c =
    subst (λ (request : Request). IfOk c.report_of_check.result (HasEndedFor request g.E.Sink.may_lack_memory (g.E.Sink.failures c.report_of_check.new.err) (g.E.Sink.taken c.report_of_check.new.err)))
    (sym (ap request_of c.in-Check.is)) (whatever c.report_of_check.result)

pub returns-in-Explain-clause-ended : goal.returns-in-Explain-clause-ended
returns-in-Explain-clause-ended g c =
    subst (λ (request : Request). IfOk c.report_of_explain.result (HasEndedFor request g.E.Sink.may_lack_memory (g.E.Sink.failures c.args.err.now) (g.E.Sink.taken c.args.err.now)))
    (sym (ap request_of c.in-Explain.is)) (whatever c.report_of_explain.result)

pub returns-in-Solve-clause-ended : goal.returns-in-Solve-clause-ended
returns-in-Solve-clause-ended g c =
    subst (λ (request : Request). IfOk c.report_of_solve.result (HasEndedFor request g.E.Sink.may_lack_memory (g.E.Sink.failures c.report_of_solve.new.err) (g.E.Sink.taken c.report_of_solve.new.err)))
    (request_of_solve c.args.order c.in-Solve.domain c.in-Solve.problem _ _ c.in-Solve.states c.in-Solve.instances c.in-Solve.seconds c.in-Solve.cert_version _ c.in-Solve.progress c.limits_of-limits.result c.in-Solve.is c.limits_of-limits.ensures.states c.limits_of-limits.ensures.instances
    c.limits_of-limits.ensures.seconds c.limits_of-limits.ensures.version)
    c.report_of_solve.ensures.ended

pub returns-in-ExplainCert-clause-found : goal.returns-in-ExplainCert-clause-found
returns-in-ExplainCert-clause-found g c = subst
    (λ (request : Request). IsFound (g.F.Files.contents c.args.files.now) (g.F.Files.is_missing c.args.files.now) (g.F.Files.is_unreadable c.args.files.now) request c.report_of_cert.result)
    (request_of_cert c.args.order c.in-ExplainCert.domain c.in-ExplainCert.problem c.in-ExplainCert.cert c.in-ExplainCert.plan c.in-ExplainCert.instances _ c.number-most.result c.in-ExplainCert.is c.number-most.ensures.number)
    (let said = c.report_of_cert.ensures in record {
      report = said.report;
      refused = IfErr-weaker c.report_of_cert.result _ _ (λ failure is. without_fault failure _ is) said.no_text;
      unread = said.unread;
      unreadable = said.unreadable;
    })

pub returns-in-ExplainCert-clause-progress : goal.returns-in-ExplainCert-clause-progress
returns-in-ExplainCert-clause-progress g c = nothing

pub returns-in-ExplainCert-clause-ended : goal.returns-in-ExplainCert-clause-ended
returns-in-ExplainCert-clause-ended g c =
    subst (λ (request : Request). IfOk c.report_of_cert.result (HasEndedFor request g.E.Sink.may_lack_memory (g.E.Sink.failures c.args.err.now) (g.E.Sink.taken c.args.err.now)))
    (sym (ap request_of c.in-ExplainCert.is)) (whatever c.report_of_cert.result)
