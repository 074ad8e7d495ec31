use Rattle.std.proofs.Common.{◌≡◌, refl, subst}
use Rattle.std.specs.Prelude.{IfSome}
use Rattle.std.proofs.lemmas.Result.{err_from_is_err_and, IfOk-weaker, IfErr-weaker}
use Rattle.command_line.specs.View.{request_of}
use Rattle.devices.specs.Texts.{AreKept}
use Rattle.faults.proofs.Results.{passed_on}
use Rattle.planner_main.specs.Program.{HasNotFailed, IsAnswerTo, IsFaultFor, fault_in}
use Rattle.planner_main.specs.Solution.{WritesReport}
use Rattle.planner_main.proofs.ProgramWords.{can_be_reported, either_since, refused_and, without_fault}
use Rattle.planner_main.proofs.ProgramReported.{reported_as, partly_as, report_written}
use Rattle.planner_main.specs.Asked.{outputs_in}
use Rattle.devices.specs.Progress.{stream}
use Rattle.planner_main.proofs.ProgressReported.{said_of_both, ended_written}
use Rattle.planner_main.proofs.program.carry_out.Goals as goal

pub write_result-requires : goal.write_result-requires
write_result-requires g c = can_be_reported (g.F.Files.contents c.args.files.now) (request_of c.args.order) c.in_ok-report.report c.in_ok-report.ensures.found.report

pub returns-clause-said : goal.returns-clause-said
returns-clause-said g c =
    let contents = g.F.Files.contents c.args.files.now in
    let request = request_of c.args.order in
    let found = c.in_ok-report.report in
    IfOk-weaker c.write_result.result _ _
    (reported_as (WritesReport found (outputs_in c.outputs_of.result)) (IsAnswerTo contents request) (report_written contents request found c.in_ok-report.ensures.found.report _ c.outputs_of.ensures)
    g.F.Files.is_known contents _ _ c.in_ok-report.ensures.kept _ _)
    c.write_result.ensures.said

pub returns-clause-partly : goal.returns-clause-partly
returns-clause-partly g c =
    let contents = g.F.Files.contents c.args.files.now in
    let request = request_of c.args.order in
    let found = c.in_ok-report.report in
    IfErr-weaker c.write_result.result _ _
    (λ _. partly_as (WritesReport found (outputs_in c.outputs_of.result)) (IsAnswerTo contents request) (report_written contents request found c.in_ok-report.ensures.found.report _ c.outputs_of.ensures)
    g.F.Files.is_known contents _ _ c.in_ok-report.ensures.kept _ _)
    c.write_result.ensures.partly

pub returns-clause-refused : goal.returns-clause-refused
returns-clause-refused g c =
    IfErr-weaker c.write_result.result _ _ (λ failure is. without_fault failure _ is) c.write_result.ensures.no_text

pub returns-clause-failures : goal.returns-clause-failures
returns-clause-failures g c =
    IfErr-weaker c.write_result.result _ _
    (λ failure. either_since (g.F.Files.failures c.args.files.now) _ (g.F.Files.failures c.write_result.new.files) (g.O.Sink.failures c.args.out.now) (g.O.Sink.failures c.write_result.new.out)
    failure c.in_ok-report.ensures.unfailed)
    c.write_result.ensures.failures

pub returns-clause-unfailed : goal.returns-clause-unfailed
returns-clause-unfailed g c =
    IfOk-weaker c.write_result.result _ _
    (λ _. subst (λ files. HasNotFailed files (g.F.Files.failures c.write_result.new.files) (g.O.Sink.failures c.args.out.now) (g.O.Sink.failures c.write_result.new.out))
    c.in_ok-report.ensures.unfailed)
    c.write_result.ensures.unfailed

pub returns-clause-unread : goal.returns-clause-unread
returns-clause-unread g c = λ name named missing. absurd (c.in_ok-report.ensures.found.unread name named missing)

pub returns-in_err-report-clause-refused : goal.returns-in_err-report-clause-refused
returns-in_err-report-clause-refused g c =
    let contents = g.F.Files.contents c.args.files.now in
    let out = g.O.Sink.taken c.args.out.now in
    let refused = IsFaultFor contents (request_of c.args.order) in
    let kept = AreKept contents (g.F.Files.contents c.report_of.new.files) in
    passed_on (λ failure. IfSome (fault_in failure) (λ fault. refused fault × (out ≡ out) × kept))
    c.from_residual.result c.in_err-report.field-0.0 c.from_residual.ensures.1
    (refused_and refused (out ≡ out) kept (fault_in c.in_err-report.field-0.0) refl c.in_err-report.ensures.kept c.in_err-report.ensures.found.refused)

pub returns-in_err-report-clause-unread : goal.returns-in_err-report-clause-unread
returns-in_err-report-clause-unread g c =
    let p = err_from_is_err_and c.from_residual.result c.from_residual.ensures.1 in
    rw (p.1, p.2) (λ name named missing. c.in_err-report.ensures.found.unread name named missing)

pub returns-clause-unreadable : goal.returns-clause-unreadable
returns-clause-unreadable g c = λ name named failing. absurd (c.in_ok-report.ensures.found.unreadable name named failing)

pub returns-in_err-report-clause-unreadable : goal.returns-in_err-report-clause-unreadable
returns-in_err-report-clause-unreadable g c =
    let p = err_from_is_err_and c.from_residual.result c.from_residual.ensures.1 in
    rw (p.1, p.2) (λ name named failing. c.in_err-report.ensures.found.unreadable name named failing)

pub returns-clause-progress : goal.returns-clause-progress
returns-clause-progress g c =
    said_of_both (g.F.Files.contents c.args.files.now) (request_of c.args.order) c.in_ok-report.report c.in_ok-report.ensures.found.report (outputs_in c.outputs_of.result) c.outputs_of.ensures
    g.E.Sink.may_lack_memory (stream (g.E.Sink.failures c.args.err.now) (g.E.Sink.taken c.args.err.now)) (stream (g.E.Sink.failures c.report_of.new.err) (g.E.Sink.taken c.report_of.new.err))
    (stream (g.E.Sink.failures c.write_result.new.err) (g.E.Sink.taken c.write_result.new.err)) c.in_ok-report.ensures.progress c.write_result.ensures.progress

pub returns-clause-ended : goal.returns-clause-ended
returns-clause-ended g c =
    ended_written g.E.Sink.may_lack_memory (stream (g.E.Sink.failures c.report_of.new.err) (g.E.Sink.taken c.report_of.new.err)) (stream (g.E.Sink.failures c.write_result.new.err) (g.E.Sink.taken c.write_result.new.err))
    (g.F.Files.contents c.args.files.now) (request_of c.args.order) c.in_ok-report.report c.in_ok-report.ensures.found.report c.in_ok-report.ensures.ended _ _ _ c.in_ok-report.ensures.kept _ _
    (outputs_in c.outputs_of.result) c.outputs_of.ensures c.write_result.result c.write_result.ensures.said c.write_result.ensures.sized
