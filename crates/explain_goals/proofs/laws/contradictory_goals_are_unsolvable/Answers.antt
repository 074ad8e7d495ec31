use Rattle.explain_goals.proofs.Invariants.{contradictory_goals_are_unsolvable as it}
use Rattle.explain_goals.proofs.laws.contradictory_goals_are_unsolvable.Goals as goal

pub returns : goal.returns
returns c = it
