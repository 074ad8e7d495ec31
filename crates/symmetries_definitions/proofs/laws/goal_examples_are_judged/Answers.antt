use Rattle.symmetries_definitions.proofs.SymmetryExampleProofs.{goals_are_judged}
use Rattle.symmetries_definitions.proofs.laws.goal_examples_are_judged.Goals as goal

pub returns : goal.returns
returns c = goals_are_judged
