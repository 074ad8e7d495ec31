use Rattle.std.proofs.Common.{◌≡◌, false, take}
use Rattle.std.specs.List.{list_any}
use Rattle.task.specs.TaskParts.{formula_of, lifted_atom_of}
use Rattle.explain_tasks.specs.Conjuncts.{has_conjunct, is_negation_of}
use Rattle.explain_tasks.proofs.conjuncts.+denies.Given as goal

abbrev pub decreases-denies : goal.decreases-denies
decreases-denies l = goal.size-denies l

-- no part so far has one
abbrev pub invariant-loop-part : goal.invariant-loop-part
invariant-loop-part l = list_any (λ part. has_conjunct (is_negation_of (lifted_atom_of l.atom)) (formula_of part)) (take l.part-index l.part-items) ≡ false
