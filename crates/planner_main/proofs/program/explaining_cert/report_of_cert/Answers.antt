use Rattle.std.proofs.Common.{inl}
use Rattle.std.proofs.lemmas.Result.{IfOk-weaker}
use Rattle.file_answers.specs.Files.{text_in}
use Rattle.planner_main.proofs.CertExplained.{explained_instead}
use Rattle.planner_main.proofs.program.explaining_cert.report_of_cert.Goals as goal

pub returns-in-Ok-clause-report : goal.returns-in-Ok-clause-report
returns-in-Ok-clause-report g c =
    let names = c.args.asked.names in
    IfOk-weaker c.in_words.result _ _ (λ found is. inl is)
    (c.in_words.ensures.report (g.F.Files.contents c.args.files.now) names.domain.now names.problem.now names.cert.now (text_in names.plan) c.args.asked.instances c.in-Ok.ensures.report)

pub returns-in-Err-clause-report : goal.returns-in-Err-clause-report
returns-in-Err-clause-report g c =
    let names = c.args.asked.names in
    explained_instead (g.F.Files.contents c.args.files.now) names.domain.now names.problem.now names.cert.now (text_in names.plan) c.args.asked.instances
    (g.F.Files.contents c.report_of_check.new.files) c.in-Err.ensures.kept c.in-Err.failure c.instead_of.result c.in-Err.ensures.refused c.instead_of.ensures.faulty c.instead_of.ensures.report

pub returns-in-Ok-clause-unread : goal.returns-in-Ok-clause-unread
returns-in-Ok-clause-unread g c = λ name named missing. absurd (c.in-Ok.ensures.unread name named missing)

pub returns-in-Ok-clause-unreadable : goal.returns-in-Ok-clause-unreadable
returns-in-Ok-clause-unreadable g c = λ name named failing. absurd (c.in-Ok.ensures.unreadable name named failing)

pub returns-in-Err-clause-unread : goal.returns-in-Err-clause-unread
returns-in-Err-clause-unread g c = λ name named missing. c.instead_of.ensures.faulty (c.in-Err.ensures.unread name named missing)

pub returns-in-Err-clause-unreadable : goal.returns-in-Err-clause-unreadable
returns-in-Err-clause-unreadable g c = λ name named failing. c.instead_of.ensures.faulty (c.in-Err.ensures.unreadable name named failing)

pub returns-in-Err-clause-failures : goal.returns-in-Err-clause-failures
returns-in-Err-clause-failures g c = c.instead_of.ensures.failures (g.F.Files.failures c.args.files.now) c.in-Err.ensures.failures

pub returns-in-Err-clause-unfailed : goal.returns-in-Err-clause-unfailed
returns-in-Err-clause-unfailed g c = c.instead_of.ensures.unfailed (g.F.Files.failures c.args.files.now) c.in-Err.ensures.failures
