use Rattle.task.specs.Task.{task_of}
use Rattle.explain_tasks.specs.Predicates.{has_literal, makes}
use Rattle.explain_tasks.proofs.PredicateLemmas.{Lacks}
use Rattle.explain_tasks.proofs.predicates.made_table.Given as goal

-- only the remaining schemas make atoms of further predicates so
abbrev pub invariant-loop-number : goal.invariant-loop-number
invariant-loop-number l = Lacks (λ n s. has_literal (makes l.becoming n) s.effect) (task_of l.task).schemas l.number l.table.items
