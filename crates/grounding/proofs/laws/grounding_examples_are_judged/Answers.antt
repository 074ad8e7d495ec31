use Rattle.model.proofs.GroundingExampleProofs.{are_grounded}
use Rattle.grounding.proofs.laws.grounding_examples_are_judged.Goals as goal

pub returns : goal.returns
returns c = are_grounded
