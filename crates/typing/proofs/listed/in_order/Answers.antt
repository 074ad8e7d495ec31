use Rattle.std.proofs.Common.{subst}
use Rattle.typing.specs.Task.{ReportsAll}
use Rattle.typing.proofs.listed.in_order.Goals as goal

pub returns : goal.returns
returns c = λ faults reported. record {
  found = c.in-At.refusal.listed.items;
  are = (subst (ReportsAll faults) c.in-At.is reported).listed;
  ordered = c.sort_unstable_by_key.ensures.permutation;
}
