use Rattle.std.proofs.Common.{take}
use Rattle.std.specs.List.{list_any}
use Rattle.task.specs.TaskParts.{effect_of}
use Rattle.formulas.specs.Marks.{Marks}
use Rattle.explain_tasks.specs.Predicates.{has_literal, makes}
use Rattle.explain_tasks.proofs.predicates.+mark_made.Given as goal

abbrev pub decreases-mark_made : goal.decreases-mark_made
decreases-mark_made l = goal.size-mark_made l

-- the predicates of the parts so far are marked
abbrev pub invariant-loop-part : goal.invariant-loop-part
invariant-loop-part l = Marks (λ n. list_any (λ part. has_literal (makes l.becoming n) (effect_of part)) (take l.part-index l.part-items)) l.initial.table.items l.table.items
