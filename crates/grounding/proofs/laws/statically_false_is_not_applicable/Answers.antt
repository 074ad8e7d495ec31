use Rattle.model.proofs.StaticallyFalseLemmas.{statically_false_is_not_applicable}
use Rattle.grounding.proofs.laws.statically_false_is_not_applicable.Goals as goal

pub returns : goal.returns
returns c = statically_false_is_not_applicable
