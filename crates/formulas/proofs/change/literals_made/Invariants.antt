use Rattle.std.proofs.Common.{◌≡◌, map}
use Rattle.task.specs.Task.{task_of}
use Rattle.formulas.specs.State.{state_of}
use Rattle.formulas.specs.Effects.{lent_literal}
use Rattle.formulas.proofs.CarriedOut.{literals_before}
use Rattle.formulas.proofs.change.literals_made.Given as goal

-- the literals of the changes so far that are made
abbrev pub invariant-loop-change : goal.invariant-loop-change
invariant-loop-change l = map lent_literal l.made.items ≡ literals_before (task_of l.task) (state_of l.before) l.changes l.change-index
