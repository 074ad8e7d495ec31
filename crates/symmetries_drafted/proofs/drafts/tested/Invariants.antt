use Rattle.symmetries.specs.SymmetryTest.{task_tested}
use Rattle.symmetries_drafted.specs.Drafts.{AreTested}
use Rattle.symmetries_drafted.proofs.drafts.tested.Given as goal

-- the exchanges so far passed the test
abbrev pub invariant-loop-exchange : goal.invariant-loop-exchange
invariant-loop-exchange l = AreTested (task_tested l.test) l.passed.items
