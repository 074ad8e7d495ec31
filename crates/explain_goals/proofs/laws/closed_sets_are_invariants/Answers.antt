use Rattle.explain_goals.proofs.Invariants.{closed_sets_are_invariants as it}
use Rattle.explain_goals.proofs.laws.closed_sets_are_invariants.Goals as goal

pub returns : goal.returns
returns c = it
