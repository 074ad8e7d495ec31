use Rattle.symmetries_definitions.proofs.StepImages.{symmetries_keep_meaning}
use Rattle.symmetries_definitions.proofs.laws.symmetries_keep_meaning.Goals as goal

pub returns : goal.returns
returns c = symmetries_keep_meaning
