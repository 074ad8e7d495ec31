use Rattle.explain_plans.proofs.FalsePartsLaws.{they_report}
use Rattle.explain_plans.proofs.false_parts.false_parts_report.Goals as goal

pub returns : goal.returns
returns c = they_report
