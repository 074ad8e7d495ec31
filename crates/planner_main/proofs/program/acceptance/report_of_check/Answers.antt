use Rattle.std.proofs.Common.{sym, subst, ◌∙◌}
use Rattle.devices.specs.Devices.{IsKept}
use Rattle.certificate_reader.specs.Reader.{source_of}
use Rattle.file_answers.specs.Files.{text_in}
use Rattle.planner_main.proofs.ProgramWords.{text_if_named_kept}
use Rattle.planner_main.proofs.CertificateReported.{check_on_inputs}
use Rattle.devices.specs.Progress.{nothing}
use Rattle.devices.proofs.ProgressLemmas.{said_of_more}
use Rattle.planner_main.proofs.ProgressReported.{known_of_kept}
use Rattle.planner_main.proofs.program.acceptance.report_of_check.Goals as goal

pub returns-clause-report : goal.returns-clause-report
returns-clause-report g c =
    let contents = g.F.Files.contents c.args.files.now in
    let names = c.args.asked.names in
    let came = subst (λ source. IsKept (g.F.Files.contents c.read_pair.new.files names.cert.now) (g.F.Input.Source.remaining source)) (sym c.new-cert.ensures.source) c.in_ok-input.ensures.bytes in
    let kept = subst (λ known. IsKept known (g.F.Input.Source.remaining (source_of c.new-cert.result))) (c.in_ok-pair.ensures.kept names.cert.now) came in
    check_on_inputs contents names.domain.now names.problem.now names.cert.now (text_in names.plan) _ _ _ c.in_ok-pair.ensures.domain c.in_ok-pair.ensures.problem
    (text_if_named_kept _ _ (λ name. c.in_ok-input.ensures.kept name ∙ c.in_ok-pair.ensures.kept name) _ _ c.in_ok-plan.ensures.text)
    c.args.asked.instances c.check_texts-report.result (c.check_texts-report.ensures.report (contents names.cert.now) kept)

pub returns-clause-progress : goal.returns-clause-progress
returns-clause-progress g c =
    let contents = g.F.Files.contents c.args.files.now in
    let names = c.args.asked.names in
    let came = subst (λ source. IsKept (g.F.Files.contents c.read_pair.new.files names.cert.now) (g.F.Input.Source.remaining source)) (sym c.new-cert.ensures.source) c.in_ok-input.ensures.bytes in
    let kept = subst (λ known. IsKept known (g.F.Input.Source.remaining (source_of c.new-cert.result))) (c.in_ok-pair.ensures.kept names.cert.now) came in
    said_of_more
    (λ line so. (so.0, (_, _, c.in_ok-pair.ensures.domain, c.in_ok-pair.ensures.problem, known_of_kept (contents names.cert.now) _ kept _ _ line so.1)))
    c.check_texts-report.ensures.progress

pub returns-in_err-pair-clause-progress : goal.returns-in_err-pair-clause-progress
returns-in_err-pair-clause-progress g c = nothing

pub returns-in_err-input-clause-progress : goal.returns-in_err-input-clause-progress
returns-in_err-input-clause-progress g c = nothing

pub returns-in_err-plan-clause-progress : goal.returns-in_err-plan-clause-progress
returns-in_err-plan-clause-progress g c = nothing
