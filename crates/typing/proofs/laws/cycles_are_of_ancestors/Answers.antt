use Rattle.model.proofs.TypingLemmas.{cycles_are_of_ancestors}
use Rattle.typing.proofs.laws.cycles_are_of_ancestors.Goals as goal

pub returns : goal.returns
returns c = cycles_are_of_ancestors
