use Rattle.std.proofs.Common.{take}
use Rattle.std.specs.List.{list_any}
use Rattle.task.specs.TaskParts.{effect_of}
use Rattle.model.specs.Fluents.{touches}
use Rattle.formulas.specs.Marks.{Marks}
use Rattle.formulas.proofs.fluent_predicates.+mark_touched.Given as goal

abbrev pub decreases-mark_touched : goal.decreases-mark_touched
decreases-mark_touched l = goal.size-mark_touched l

-- the predicates of the parts so far are marked
abbrev pub invariant-loop-part : goal.invariant-loop-part
invariant-loop-part l = Marks (λ n. list_any (λ part. touches n (effect_of part)) (take l.part-index l.part-items)) l.initial.table.items l.table.items
