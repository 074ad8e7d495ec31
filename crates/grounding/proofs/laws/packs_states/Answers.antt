use Rattle.model.proofs.GroundTaskLemmas.{packs_states}
use Rattle.grounding.proofs.laws.packs_states.Goals as goal

pub returns : goal.returns
returns c = packs_states
