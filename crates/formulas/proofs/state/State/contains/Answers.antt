use Rattle.std.proofs.Common.{◌∙◌}
use Rattle.formulas.proofs.States.{contains_alike}
use Rattle.formulas.proofs.state.State.contains.Goals as goal

pub returns : goal.returns
returns c = c.contains.ensures ∙ contains_alike c.args.self.now.atoms.keys c.args.atom.now
