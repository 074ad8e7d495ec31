use Rattle.symmetries_definitions.proofs.SymmetryExampleProofs.{actions_are_judged}
use Rattle.symmetries_definitions.proofs.laws.action_examples_are_judged.Goals as goal

pub returns : goal.returns
returns c = actions_are_judged
