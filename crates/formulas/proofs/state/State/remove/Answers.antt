use Rattle.formulas.proofs.States.{removed, in_order}
use Rattle.formulas.proofs.state.State.remove.Goals as goal

pub returns : goal.returns
returns c = removed c.args.self.now.atoms c.remove.new.self c.args.atom.now c.remove.ensures.updates.0

pub invariant_of-self : goal.invariant_of-self
invariant_of-self c = record { in_order = in_order c.remove.new.self.keys c.remove.ensures.ordered }
