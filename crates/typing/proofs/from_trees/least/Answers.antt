use Rattle.std.proofs.Common.{subst}
use Rattle.typing.specs.Task.{ReportsAll}
use Rattle.typing.proofs.from_trees.least.Goals as goal

pub returns-in-At : goal.returns-in-At
returns-in-At c = λ faults reported. (subst (ReportsAll faults) c.in-At.is reported).first
