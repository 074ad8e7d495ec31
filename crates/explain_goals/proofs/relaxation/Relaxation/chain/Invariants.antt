use Rattle.std.proofs.Common.{map}
use Rattle.task.specs.TaskParts.{atom_of}
use Rattle.formulas.specs.State.{state_of}
use Rattle.explain_goals.specs.Needed.{IsOutChain}
use Rattle.explain_goals.proofs.relaxation.Relaxation.chain.Given as goal

abbrev pub invariant-links : goal.invariant-links
invariant-links l = IsOutChain l.self (atom_of l.atom) (map state_of l.links.items)
