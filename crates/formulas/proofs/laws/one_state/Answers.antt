use Rattle.formulas.proofs.Equality.{Decides-state_eq}
use Rattle.formulas.proofs.laws.one_state.Goals as goal

pub returns : goal.returns
returns c = Decides-state_eq
