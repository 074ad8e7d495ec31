use Rattle.explain_goals.proofs.Invariants.{never_true_goals_are_unsolvable as it}
use Rattle.explain_goals.proofs.laws.never_true_goals_are_unsolvable.Goals as goal

pub returns : goal.returns
returns c = it
