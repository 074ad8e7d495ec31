use Rattle.formulas.proofs.States.{inserted, in_order}
use Rattle.formulas.proofs.state.State.insert.Goals as goal

pub returns-clause-ok : goal.returns-clause-ok
returns-clause-ok c = inserted c.args.self.now.atoms c.insert.new.self c.args.atom c.in_ok-insert.ensures.updates.0

pub invariant_of-self : goal.invariant_of-self
invariant_of-self c = record { in_order = in_order c.insert.new.self.keys c.insert.ensures.ordered }
