use Rattle.std.proofs.Common.{length}
use Rattle.explain_tasks.proofs.conjuncts.+are_same_terms.Given as goal

abbrev pub decreases-are_same_terms : goal.decreases-are_same_terms
decreases-are_same_terms l = length l.some.now
