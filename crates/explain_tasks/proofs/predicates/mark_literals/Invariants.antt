use Rattle.std.proofs.Common.{take}
use Rattle.std.specs.List.{list_any}
use Rattle.task.specs.TaskParts.{effect_literal_of}
use Rattle.formulas.specs.Marks.{Marks}
use Rattle.explain_tasks.specs.Predicates.{makes}
use Rattle.explain_tasks.proofs.predicates.mark_literals.Given as goal

-- the predicates of the literals so far are marked
abbrev pub invariant-loop-literal : goal.invariant-loop-literal
invariant-loop-literal l = Marks (λ n. list_any (λ one. makes l.becoming n (effect_literal_of one)) (take l.literal-index l.literals)) l.initial.table.items l.table.items
