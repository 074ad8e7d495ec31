use Rattle.std.proofs.Common.{refl}
use Rattle.std.proofs.lemmas.Result.{err_from_is_err_and}
use Rattle.planner_main.specs.declared.program.inputs.TaskTexts.{TaskTexts}
use Rattle.devices.specs.Progress.{nothing}
use Rattle.devices.proofs.ProgressLemmas.{said_of_more}
use Rattle.planner_main.proofs.ProgramWords.{refused_on_two, device_counted}
use Rattle.planner_main.proofs.program.solution.report_of_solve.Goals as goal

pub returns-in_err-pair-clause-refused : goal.returns-in_err-pair-clause-refused
returns-in_err-pair-clause-refused g c =
    let p = err_from_is_err_and c.from_residual.result c.from_residual.ensures.1 in
    rw (p.1, p.2) tt

pub returns-in_err-solved-clause-refused : goal.returns-in_err-solved-clause-refused
returns-in_err-solved-clause-refused g c =
    let p = err_from_is_err_and c.from_residual-in_err-solved.result c.from_residual-in_err-solved.ensures.1 in
    rw (p.1, p.2)
    (refused_on_two (g.F.Files.contents c.args.files.now) c.args.asked.names.domain.now c.args.asked.names.problem.now _ _ c.in_ok-pair.ensures.domain c.in_ok-pair.ensures.problem _ c.in_err-solved.ensures.refused)

pub returns-clause-report : goal.returns-clause-report
returns-clause-report g c =
    (c.in_ok-solved.solved, refl, c.in_ok-solved.ensures.version, (_, _, c.in_ok-pair.ensures.domain, c.in_ok-pair.ensures.problem, (c.in_ok-solved.ensures.task, c.in_ok-solved.ensures.answer)))

pub returns-in_err-pair-clause-failures : goal.returns-in_err-pair-clause-failures
returns-in_err-pair-clause-failures g c =
    let p = err_from_is_err_and c.from_residual.result c.from_residual.ensures.1 in
    rw (p.1, p.2) (device_counted TaskTexts _ _ _ _ refl c.in_err-pair.ensures.failures)

pub returns-in_err-solved-clause-failures : goal.returns-in_err-solved-clause-failures
returns-in_err-solved-clause-failures g c =
    let p = err_from_is_err_and c.from_residual-in_err-solved.result c.from_residual-in_err-solved.ensures.1 in
    rw (p.1, p.2) c.in_ok-pair.ensures.failures

pub returns-in_err-pair-clause-progress : goal.returns-in_err-pair-clause-progress
returns-in_err-pair-clause-progress g c = nothing

pub returns-in_err-solved-clause-progress : goal.returns-in_err-solved-clause-progress
returns-in_err-solved-clause-progress g c =
    said_of_more (λ line is. (is.0, (_, _, c.in_ok-pair.ensures.domain, c.in_ok-pair.ensures.problem, is.1))) c.in_err-solved.ensures.progress

pub returns-clause-progress : goal.returns-clause-progress
returns-clause-progress g c =
    said_of_more (λ line is. (is.0, (_, _, c.in_ok-pair.ensures.domain, c.in_ok-pair.ensures.problem, is.1))) c.in_ok-solved.ensures.progress
