use Rattle.std.proofs.Common.{◌≡◌, false, take}
use Rattle.std.specs.List.{list_any}
use Rattle.task.specs.TaskParts.{formula_of}
use Rattle.explain_tasks.specs.Conjuncts.{has_conjunct, is_denied}
use Rattle.explain_tasks.proofs.conjuncts.+has_denied.Given as goal

abbrev pub decreases-has_denied : goal.decreases-has_denied
decreases-has_denied l = goal.size-has_denied l

-- no part so far has one
abbrev pub invariant-loop-part : goal.invariant-loop-part
invariant-loop-part l = list_any (λ part. has_conjunct (is_denied (formula_of l.whole)) (formula_of part)) (take l.part-index l.part-items) ≡ false
