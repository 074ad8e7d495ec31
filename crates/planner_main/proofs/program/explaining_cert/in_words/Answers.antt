use Rattle.std.proofs.lemmas.Result.{err_from_is_err_and}
use Rattle.planner_main.proofs.CertExplained.{worded}
use Rattle.planner_main.proofs.program.explaining_cert.in_words.Goals as goal

pub returns-in_ok-words-in-Check-clause-report : goal.returns-in_ok-words-in-Check-clause-report
returns-in_ok-words-in-Check-clause-report g c = λ contents domain problem cert plan most on. worded contents domain problem cert plan most c.args.report _ c.in-Check.is on

pub returns-in_err-words-in-Check-clause-no_text : goal.returns-in_err-words-in-Check-clause-no_text
returns-in_err-words-in-Check-clause-no_text g c =
    let p = err_from_is_err_and c.from_residual.result c.from_residual.ensures.1 in
    rw (p.1, p.2) c.in_err-words-in-Check.ensures.no_text

pub returns-in_err-words-in-Check-clause-failures : goal.returns-in_err-words-in-Check-clause-failures
returns-in_err-words-in-Check-clause-failures g c =
    let p = err_from_is_err_and c.from_residual.result c.from_residual.ensures.1 in
    rw (p.1, p.2) c.in_err-words-in-Check.ensures.failures
