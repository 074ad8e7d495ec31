use Rattle.model.proofs.PackedSteps.{numbered_literals_hold}
use Rattle.grounding.proofs.laws.numbered_literals_hold.Goals as goal

pub returns : goal.returns
returns c = numbered_literals_hold
