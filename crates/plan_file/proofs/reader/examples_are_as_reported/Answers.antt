use Rattle.model.proofs.PlanExampleProofs.{are_plans}
use Rattle.plan_file.proofs.reader.examples_are_as_reported.Goals as goal

pub returns : goal.returns
returns c = are_plans
