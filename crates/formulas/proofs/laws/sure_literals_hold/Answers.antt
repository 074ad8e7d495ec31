use Rattle.model.proofs.SureLiteralsHold.{sure_literals_hold}
use Rattle.formulas.proofs.laws.sure_literals_hold.Goals as goal

pub returns : goal.returns
returns c = sure_literals_hold
