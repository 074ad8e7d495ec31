use Rattle.std.proofs.Common.{length}
use Rattle.explain_tasks.proofs.lacking.+is_product_within.Given as goal

abbrev pub decreases-is_product_within : goal.decreases-is_product_within
decreases-is_product_within l = length l.unions.now
