use Rattle.file_answers.proofs.ExplanationLemmas.{step_found}
use Rattle.file_answers.proofs.explaining.of_plan.failed_step.Goals as goal

pub returns-in-NotApplicable : goal.returns-in-NotApplicable
returns-in-NotApplicable c =
    step_found c.args.text.now c.args.verdict c.in-NotApplicable.step c.step_place.result c.in-NotApplicable.is c.requires c.step_place.ensures
