use Rattle.std.proofs.Common.{◌≤◌, ◌||◌, ap, sym, subst}
use Rattle.std.specs.List.{list_any}
use Rattle.std.specs.Prelude.{slice_get}
use Rattle.task.specs.Task.{task_of}
use Rattle.task.specs.TaskParts.{shape_of}
use Rattle.task.proofs.Shapes.{Shape, found as schema_found}
use Rattle.model.specs.Task.{Schema}
use Rattle.formulas.specs.Marks.{is_marked}
use Rattle.formulas.proofs.FluentMarks.{marks_by}
use Rattle.explain_tasks.specs.Predicates.{has_literal, makes}
use Rattle.explain_tasks.proofs.PredicateLemmas.{lacks_fewer, lacks_none}
use Rattle.explain_tasks.proofs.predicates.made_table.Goals as goal

pub loop-number-init : goal.loop-number-init
loop-number-init c = λ n. ap (λ l. is_marked l n || list_any (λ (s : Schema). has_literal (makes c.args.becoming n) s.effect) (task_of c.args.task.now).schemas) (sym c.new-table.ensures.items)

pub loop-number-preserved : goal.loop-number-preserved
loop-number-preserved c =
    let schemas = (task_of c.args.task.now).schemas in
    let found = schema_found (slice_get schemas c.loop-number.number) (shape_of c.in-Some.schema.now) c.in-Some.ensures.shape in
    lacks_fewer (λ n s. has_literal (makes c.args.becoming n) s.effect) schemas c.loop-number.number found.0 c.loop-number.table.items c.mark_made.new.table.items found.1 c.loop-number.invariant
    (marks_by _ _ c.loop-number.table.items c.mark_made.new.table.items (λ n. ap (λ (s : Shape). has_literal (makes c.args.becoming n) s.2) found.2) c.in_ok-mark_made-in-Some.ensures)

pub returns : goal.returns
returns c =
    lacks_none (λ n s. has_literal (makes c.args.becoming n) s.effect) (task_of c.args.task.now).schemas c.loop-number.number c.loop-number.table.items
    (subst (λ count. count ≤ c.loop-number.number) c.schema_count-number-end.ensures c.loop-number-test.false) c.loop-number.invariant
