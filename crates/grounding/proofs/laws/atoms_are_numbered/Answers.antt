use Rattle.model.proofs.GroundTaskLemmas.{are_numbered}
use Rattle.grounding.proofs.laws.atoms_are_numbered.Goals as goal

pub returns : goal.returns
returns c = are_numbered
