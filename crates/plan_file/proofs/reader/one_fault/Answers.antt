use Rattle.plan_file.proofs.PlanSteps.{one_fault_of_text}
use Rattle.plan_file.proofs.reader.one_fault.Goals as goal

pub returns : goal.returns
returns c = one_fault_of_text
