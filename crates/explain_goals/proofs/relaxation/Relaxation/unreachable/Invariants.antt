use Rattle.std.proofs.Common.{map}
use Rattle.formulas.specs.Literals.{literal_of}
use Rattle.explain_goals.specs.Needed.{AreUnreachable}
use Rattle.explain_goals.proofs.relaxation.Relaxation.unreachable.Given as goal

abbrev pub invariant-atoms : goal.invariant-atoms
invariant-atoms l = AreUnreachable l.self (map literal_of l.literals) l.found.items
