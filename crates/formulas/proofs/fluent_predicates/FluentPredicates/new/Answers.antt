use Rattle.std.proofs.Common.{ap}
use Rattle.std.specs.Prelude.{slice_get}
use Rattle.task.specs.Task.{task_of}
use Rattle.task.specs.TaskParts.{shape_of}
use Rattle.model.specs.Fluents.{touches}
use Rattle.task.proofs.Shapes.{Shape, found as schema_found}
use Rattle.formulas.proofs.FluentMarks.{lacks_fewer, marks_by}
use Rattle.formulas.proofs.fluent_predicates.FluentPredicates.new.Goals as goal

pub loop-number-preserved : goal.loop-number-preserved
loop-number-preserved c =
    let task = task_of c.args.task.now in
    let found = schema_found (slice_get task.schemas c.loop-number.number) (shape_of c.in-Some.schema.now) c.in-Some.ensures.shape in
    lacks_fewer task c.loop-number.number found.0 c.loop-number.table.items c.mark_touched.new.table.items found.1 c.loop-number.invariant
    (marks_by _ _ c.loop-number.table.items c.mark_touched.new.table.items (λ n. ap (λ (s : Shape). touches n s.2) found.2) c.in_ok-mark_touched-in-Some.ensures)
