use Rattle.std.proofs.Common.{ap}
use Rattle.std.proofs.lemmas.Result.{err_from_is_err_and}
use Rattle.file_answers.specs.Files.{text_in}
use Rattle.file_answers.proofs.CheckedLemmas.{plan_input}
use Rattle.devices.specs.Progress.{nothing}
use Rattle.file_answers.proofs.checking.Checker.answer_on.Goals as goal

pub returns-in_err-plan-clause-refused : goal.returns-in_err-plan-clause-refused
returns-in_err-plan-clause-refused g c = λ domain problem is.
    let p = err_from_is_err_and c.from_residual.result c.from_residual.ensures.1 in
    rw (p.1, p.2)
    (plan_input domain problem (text_in c.args.self.inputs.plan) c.in-Some.text.now (ap text_in c.in-Some.is) _ (c.in_err-plan.ensures.refused domain problem is))

pub returns-in_err-plan-clause-said : goal.returns-in_err-plan-clause-said
returns-in_err-plan-clause-said g c = nothing
