use Rattle.std.proofs.Common.{◌≡◌, false, take}
use Rattle.std.specs.List.{list_any}
use Rattle.task.specs.TaskParts.{effect_of, lifted_atom_of}
use Rattle.explain_tasks.specs.Conjuncts.{has_sure_literal, is_addition_of}
use Rattle.explain_tasks.proofs.conjuncts.+adds.Given as goal

abbrev pub decreases-adds : goal.decreases-adds
decreases-adds l = goal.size-adds l

-- no part so far has one
abbrev pub invariant-loop-part : goal.invariant-loop-part
invariant-loop-part l = list_any (λ part. has_sure_literal (is_addition_of (lifted_atom_of l.atom)) (effect_of part)) (take l.part-index l.part-items) ≡ false
