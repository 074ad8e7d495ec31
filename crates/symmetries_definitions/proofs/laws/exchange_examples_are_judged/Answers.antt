use Rattle.symmetries_definitions.proofs.SymmetryExampleProofs.{exchanges_are_judged}
use Rattle.symmetries_definitions.proofs.laws.exchange_examples_are_judged.Goals as goal

pub returns : goal.returns
returns c = exchanges_are_judged
