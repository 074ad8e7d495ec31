use Rattle.std.proofs.Common.{◌≡◌, drop, length}
use Rattle.std.specs.Cmp.Lexicographic.{pointwise}
use Rattle.task.specs.Task.{task_of}
use Rattle.formulas.proofs.Pointwise.{code_is_of}
use Rattle.formulas.proofs.instance.are_of.Given as goal

-- the remaining pairs decide
abbrev pub invariant-loop-types : goal.invariant-loop-types
invariant-loop-types l =
    pointwise (code_is_of (task_of l.task)) (drop (length l.yielded) l.unions) (drop (length l.yielded) l.objects)
    ≡ pointwise (code_is_of (task_of l.task)) l.unions l.objects
