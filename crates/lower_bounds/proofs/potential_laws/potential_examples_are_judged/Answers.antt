use Rattle.lower_bounds.proofs.PotentialExampleProofs.{are_judged}
use Rattle.lower_bounds.proofs.potential_laws.potential_examples_are_judged.Goals as goal

pub returns : goal.returns
returns c = are_judged
