use Rattle.model.proofs.TypingExampleProofs.{are_typed}
use Rattle.typing.proofs.laws.examples_are_typed.Goals as goal

pub returns : goal.returns
returns c = are_typed
