use Rattle.std.proofs.Common.{arith}
use Rattle.guides.proofs.tested.TestedValue.known.Goals as goal

pub value-shares-requires : goal.value-shares-requires
value-shares-requires c = omega (arith, c.requires)
