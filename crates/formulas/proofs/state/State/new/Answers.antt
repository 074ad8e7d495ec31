use Rattle.formulas.proofs.States.{in_order}
use Rattle.formulas.proofs.state.State.new.Goals as goal

pub invariant_of-result : goal.invariant_of-result
invariant_of-result c = record { in_order = in_order c.new.result.keys c.new.ensures.ordered }
