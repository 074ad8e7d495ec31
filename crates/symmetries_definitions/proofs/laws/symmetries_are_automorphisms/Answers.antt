use Rattle.symmetries_definitions.proofs.StepImages.{symmetries_are_automorphisms}
use Rattle.symmetries_definitions.proofs.laws.symmetries_are_automorphisms.Goals as goal

pub returns : goal.returns
returns c = symmetries_are_automorphisms
