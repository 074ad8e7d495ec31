use Rattle.symmetries_definitions.proofs.SymmetryExampleProofs.{representatives_are_judged}
use Rattle.symmetries_definitions.proofs.laws.representative_examples_are_judged.Goals as goal

pub returns : goal.returns
returns c = representatives_are_judged
