use Rattle.std.proofs.Common.{◌≡◌, false, take}
use Rattle.std.specs.List.{list_any}
use Rattle.task.specs.TaskParts.{effect_of}
use Rattle.explain_tasks.specs.Conjuncts.{has_sure_literal, is_undone}
use Rattle.explain_tasks.proofs.conjuncts.+has_undone.Given as goal

abbrev pub decreases-has_undone : goal.decreases-has_undone
decreases-has_undone l = goal.size-has_undone l

-- no part so far has one
abbrev pub invariant-loop-part : goal.invariant-loop-part
invariant-loop-part l = list_any (λ part. has_sure_literal (is_undone (effect_of l.whole)) (effect_of part)) (take l.part-index l.part-items) ≡ false
