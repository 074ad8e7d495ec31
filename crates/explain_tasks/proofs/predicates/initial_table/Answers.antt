use Rattle.std.proofs.Common.{[], ap}
use Rattle.task.specs.TaskParts.{atom_of}
use Rattle.formulas.specs.Marks.{is_marked}
use Rattle.formulas.proofs.FluentMarks.{marks_all, marks_more, table_of}
use Rattle.explain_tasks.specs.Predicates.{is_of_predicate}
use Rattle.explain_tasks.proofs.predicates.initial_table.Goals as goal

pub loop-atom-init : goal.loop-atom-init
loop-atom-init c = λ n. ap (λ l. is_marked l n) c.new-table.ensures.items

pub loop-atom-preserved : goal.loop-atom-preserved
loop-atom-preserved c =
    marks_more (λ n one. is_of_predicate n (atom_of one)) c.args.atoms.now c.loop-atom.atom-index []
    c.atom-item.result c.loop-atom.table.items c.mark.new.table.items c.loop-atom-test.true c.atom-item.is c.loop-atom.invariant c.in_ok-mark.ensures

pub returns : goal.returns
returns c =
    table_of is_of_predicate atom_of c.args.atoms.now c.loop-atom.table.items
    (marks_all (λ n one. is_of_predicate n (atom_of one)) c.args.atoms.now c.loop-atom.atom-index [] c.loop-atom.table.items c.loop-atom-test.false c.loop-atom.invariant)
