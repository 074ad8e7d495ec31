use Rattle.plan_file.proofs.PlanSteps.{one_list_of_instances, no_fault_of_plan}
use Rattle.plan_file.proofs.reader.one_plan.Goals as goal

pub returns : goal.returns
returns c = record { one = one_list_of_instances; none = no_fault_of_plan }
