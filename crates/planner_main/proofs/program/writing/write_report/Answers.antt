use Rattle.std.proofs.Common.{refl, ◌∙◌, inr}
use Rattle.std.specs.String.{string_bytes}
use Rattle.std.specs.Option.{option_map}
use Rattle.std.proofs.lemmas.Result.{err_from_is_err_and}
use Rattle.planner_main.specs.Asked.{outputs_in}
use Rattle.planner_main.specs.Program.{on_the_output}
use Rattle.printed_answers.specs.Reported.{status_of}
use Rattle.planner_main.specs.Solution.{files_for}
use Rattle.planner_main.proofs.ProgramReported.{both_written, partly_in_cert, partly_in_plan, reported_is}
use Rattle.planner_main.proofs.SizeReported.{said_of_cert, said_of_files, sized_of_cert}
use Rattle.devices.specs.Progress.{nothing, stream}
use Rattle.devices.proofs.ProgressLemmas.{said_after, said_of_more}
use Rattle.planner_main.proofs.program.writing.write_report.Goals as goal

pub plan_text-plan-requires : goal.plan_text-plan-requires
plan_text-plan-requires g c = c.deref.ensures.value ∙ c.in_ok-text.ensures

pub returns-in_err-save_cert-clause-partly : goal.returns-in_err-save_cert-clause-partly
returns-in_err-save_cert-clause-partly g c =
    let p = err_from_is_err_and c.from_residual-in_err-save_cert.result c.from_residual-in_err-save_cert.ensures.1 in
    rw (p.1)
    (partly_in_cert c.args.report.now (outputs_in c.args.outputs) g.F.Files.is_known (g.F.Files.contents c.args.files.now) _ _ c.cert_text-cert.ensures (c.in_err-save_cert.ensures.partly refl))

pub returns-in_err-save_or_say-clause-partly : goal.returns-in_err-save_or_say-clause-partly
returns-in_err-save_or_say-clause-partly g c =
    let p = err_from_is_err_and c.from_residual-in_err-save_or_say.result c.from_residual-in_err-save_or_say.ensures.1 in
    rw (p.1)
    (partly_in_plan c.args.report.now (outputs_in c.args.outputs) g.F.Files.is_known (g.F.Files.contents c.args.files.now) (g.F.Files.contents c.save_cert.new.files) _
    _ _ c.cert_text-cert.ensures c.plan_text-plan.ensures c.in_ok-save_cert.ensures.written _ (c.in_err-save_or_say.ensures.partly refl))

pub returns-in_err-write_all-clause-partly : goal.returns-in_err-write_all-clause-partly
returns-in_err-write_all-clause-partly g c =
    let p = err_from_is_err_and c.from_residual-in_err-write_all.result c.from_residual-in_err-write_all.ensures.1 in
    let is = reported_is c.args.report.now (outputs_in c.args.outputs).json (option_map string_bytes c.in_ok-json.json) c.deref-2.result.now c.said.result.now
    c.in_ok-json.ensures (c.deref-2.ensures.value ∙ c.in_ok-text.ensures) c.said.ensures in
    rw (p.1) (on_the_output c.said.result.now (status_of c.args.report.now) (files_for c.args.report.now (outputs_in c.args.outputs)) (is, refl, refl) c.write_all.ensures.beginning
    (both_written c.args.report.now (outputs_in c.args.outputs) g.F.Files.is_known (g.F.Files.contents c.args.files.now) (g.F.Files.contents c.save_cert.new.files) _
    _ _ c.cert_text-cert.ensures c.plan_text-plan.ensures c.in_ok-save_cert.ensures.written c.in_ok-save_or_say.ensures.written))

pub returns-clause-said : goal.returns-clause-said
returns-clause-said g c =
    let is = reported_is c.args.report.now (outputs_in c.args.outputs).json (option_map string_bytes c.in_ok-json.json) c.deref-2.result.now c.said.result.now
    c.in_ok-json.ensures (c.deref-2.ensures.value ∙ c.in_ok-text.ensures) c.said.ensures in (
      c.said.result.now,
      files_for c.args.report.now (outputs_in c.args.outputs),
      (is, c.status_of.ensures, refl),
      c.in_ok-write_all.ensures.ok,
      both_written c.args.report.now (outputs_in c.args.outputs) g.F.Files.is_known (g.F.Files.contents c.args.files.now) (g.F.Files.contents c.save_cert.new.files) _
          _ _ c.cert_text-cert.ensures c.plan_text-plan.ensures c.in_ok-save_cert.ensures.written c.in_ok-save_or_say.ensures.written,
    )

-- the lines about the certificate's file, and then about the plan's
pub returns-in_err-save_cert-clause-progress : goal.returns-in_err-save_cert-clause-progress
returns-in_err-save_cert-clause-progress g c =
    said_of_cert c.args.report.now (outputs_in c.args.outputs) _ c.cert_text-cert.ensures g.E.Sink.may_lack_memory _ _ (stream (g.E.Sink.failures c.save_cert.new.err) (g.E.Sink.taken c.save_cert.new.err))
    c.save_cert.ensures.progress

pub returns-in_err-save_or_say-clause-progress : goal.returns-in_err-save_or_say-clause-progress
returns-in_err-save_or_say-clause-progress g c =
    said_after (said_of_cert c.args.report.now (outputs_in c.args.outputs) _ c.cert_text-cert.ensures g.E.Sink.may_lack_memory _ _ (stream (g.E.Sink.failures c.save_cert.new.err) (g.E.Sink.taken c.save_cert.new.err))
    c.save_cert.ensures.progress) (said_of_more (λ line is. inr is) c.in_err-save_or_say.ensures.progress)

pub returns-in_err-text-clause-progress : goal.returns-in_err-text-clause-progress
returns-in_err-text-clause-progress g c = nothing

pub returns-in_err-json-clause-progress : goal.returns-in_err-json-clause-progress
returns-in_err-json-clause-progress g c = nothing

-- no further line if both files are written
pub returns-in_err-write_all-clause-progress : goal.returns-in_err-write_all-clause-progress
returns-in_err-write_all-clause-progress g c =
    said_of_files c.args.report.now (outputs_in c.args.outputs) _ c.cert_text-cert.ensures g.E.Sink.may_lack_memory (stream (g.E.Sink.failures c.args.err.now) (g.E.Sink.taken c.args.err.now))
    (stream (g.E.Sink.failures c.save_cert.new.err) (g.E.Sink.taken c.save_cert.new.err)) (stream (g.E.Sink.failures c.save_or_say.new.err) (g.E.Sink.taken c.save_or_say.new.err))
    c.in_ok-save_or_say.ensures.quiet c.save_cert.ensures.progress

pub returns-clause-progress : goal.returns-clause-progress
returns-clause-progress g c =
    said_of_files c.args.report.now (outputs_in c.args.outputs) _ c.cert_text-cert.ensures g.E.Sink.may_lack_memory (stream (g.E.Sink.failures c.args.err.now) (g.E.Sink.taken c.args.err.now))
    (stream (g.E.Sink.failures c.save_cert.new.err) (g.E.Sink.taken c.save_cert.new.err)) (stream (g.E.Sink.failures c.save_or_say.new.err) (g.E.Sink.taken c.save_or_say.new.err))
    c.in_ok-save_or_say.ensures.quiet c.save_cert.ensures.progress

pub returns-clause-sized : goal.returns-clause-sized
returns-clause-sized g c =
    sized_of_cert c.args.report.now (outputs_in c.args.outputs) _ c.cert_text-cert.ensures g.E.Sink.may_lack_memory (stream (g.E.Sink.failures c.args.err.now) (g.E.Sink.taken c.args.err.now))
    (stream (g.E.Sink.failures c.save_cert.new.err) (g.E.Sink.taken c.save_cert.new.err)) (stream (g.E.Sink.failures c.save_or_say.new.err) (g.E.Sink.taken c.save_or_say.new.err))
    c.in_ok-save_or_say.ensures.quiet c.in_ok-save_cert.ensures.sized
