use Rattle.explain_goals.proofs.MutexLemmas.{exclusive_goals_are_unsolvable as it}
use Rattle.explain_goals.proofs.laws.exclusive_goals_are_unsolvable.Goals as goal

pub returns : goal.returns
returns c = it
