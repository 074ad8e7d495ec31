use Rattle.std.proofs.Common.{ℕ, refl, ◌∙◌}
use Rattle.std.specs.Global.{Vec}
use Rattle.std.proofs.lemmas.Result.{err_from_is_err_and}
use Rattle.planner_main.specs.declared.program.inputs.TaskTexts.{TaskTexts}
use Rattle.planner_main.proofs.ProgramWords.{text_kept, refused_on_three, device_counted}
use Rattle.planner_main.proofs.program.validation.verdict_on.Goals as goal

pub returns-in_err-task-clause-refused : goal.returns-in_err-task-clause-refused
returns-in_err-task-clause-refused g c =
    let p = err_from_is_err_and c.from_residual.result c.from_residual.ensures.1 in
    rw (p.1, p.2) tt

pub returns-in_err-plan-clause-refused : goal.returns-in_err-plan-clause-refused
returns-in_err-plan-clause-refused g c =
    let p = err_from_is_err_and c.from_residual-in_err-plan.result c.from_residual-in_err-plan.ensures.1 in
    rw (p.1, p.2) tt

pub returns-in_err-verdict-clause-refused : goal.returns-in_err-verdict-clause-refused
returns-in_err-verdict-clause-refused g c =
    let p = err_from_is_err_and c.from_residual-in_err-verdict.result c.from_residual-in_err-verdict.ensures.1 in
    let refused = rw (c.deref.ensures.value, c.deref-2.ensures.value, c.deref-3.ensures.value) at c.in_err-verdict.ensures.refused in
    rw (p.1, p.2)
    (refused_on_three (g.F.Files.contents c.args.files.now) c.args.names.domain.now c.args.names.problem.now c.args.plan.now _ _ _ c.in_ok-task.ensures.domain c.in_ok-task.ensures.problem
    (text_kept _ _ c.in_ok-task.ensures.kept _ _ c.in_ok-plan.ensures.bytes) _ refused)

pub returns-clause-verdict : goal.returns-clause-verdict
returns-clause-verdict g c =
    let verdict = rw (c.deref.ensures.value, c.deref-2.ensures.value, c.deref-3.ensures.value) at c.in_ok-verdict.ensures.verdict in
    (_, _, _, c.in_ok-task.ensures.domain, c.in_ok-task.ensures.problem, text_kept _ _ c.in_ok-task.ensures.kept _ _ c.in_ok-plan.ensures.bytes, verdict)

pub returns-in_err-task-clause-failures : goal.returns-in_err-task-clause-failures
returns-in_err-task-clause-failures g c =
    let p = err_from_is_err_and c.from_residual.result c.from_residual.ensures.1 in
    rw (p.1, p.2) (device_counted TaskTexts _ _ _ _ refl c.in_err-task.ensures.failures)

pub returns-in_err-plan-clause-failures : goal.returns-in_err-plan-clause-failures
returns-in_err-plan-clause-failures g c =
    let p = err_from_is_err_and c.from_residual-in_err-plan.result c.from_residual-in_err-plan.ensures.1 in
    rw (p.1, p.2) (device_counted (Vec ℕ) _ _ _ _ c.in_ok-task.ensures.failures c.in_err-plan.ensures.failures)

pub returns-in_err-verdict-clause-failures : goal.returns-in_err-verdict-clause-failures
returns-in_err-verdict-clause-failures g c =
    let p = err_from_is_err_and c.from_residual-in_err-verdict.result c.from_residual-in_err-verdict.ensures.1 in
    rw (p.1, p.2) (c.in_ok-plan.ensures.failures ∙ c.in_ok-task.ensures.failures)
