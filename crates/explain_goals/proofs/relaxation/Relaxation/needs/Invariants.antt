use Rattle.formulas.specs.State.{state_of}
use Rattle.explain_goals.specs.Needed.{AreAnsweredBelow}
use Rattle.explain_goals.proofs.relaxation.Relaxation.needs.Given as goal

-- of the instances so far
abbrev pub invariant-loop-number : goal.invariant-loop-number
invariant-loop-number l = AreAnsweredBelow l.self (state_of l.added) l.number (state_of l.needed)
