use Rattle.std.proofs.Common.{take, []}
use Rattle.std.specs.List.{list_any}
use Rattle.task.specs.TaskParts.{atom_of}
use Rattle.formulas.specs.Marks.{Marks}
use Rattle.explain_tasks.specs.Predicates.{is_of_predicate}
use Rattle.explain_tasks.proofs.predicates.initial_table.Given as goal

-- the predicates of the atoms so far are marked
abbrev pub invariant-loop-atom : goal.invariant-loop-atom
invariant-loop-atom l = Marks (λ n. list_any (λ one. is_of_predicate n (atom_of one)) (take l.atom-index l.atoms)) [] l.table.items
