use Rattle.model.proofs.ExampleProofs.{worked_examples}
use Rattle.validator.proofs.verdict.worked_examples_are_true.Goals as goal

pub returns : goal.returns
returns c = worked_examples
