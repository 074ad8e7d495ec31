use Rattle.task.specs.Task.{task_of}
use Rattle.formulas.proofs.FluentMarks.{Lacks}
use Rattle.formulas.proofs.fluent_predicates.FluentPredicates.new.Given as goal

-- only the remaining schemas touch further predicates
abbrev pub invariant-loop-number : goal.invariant-loop-number
invariant-loop-number l = Lacks (task_of l.task) l.number l.table.items
