use Rattle.std.proofs.Common.{◌∙◌, ap}
use Rattle.std.specs.Prelude.{slice_get}
use Rattle.task.specs.Task.{task_of}
use Rattle.task.specs.TaskParts.{shape_of}
use Rattle.model.specs.Fluents.{touches}
use Rattle.task.proofs.Shapes.{Shape, found as schema_found}
use Rattle.formulas.proofs.FluentTests.{fluent_here, fluent_later}
use Rattle.formulas.proofs.fluents.is_fluent_predicate.Goals as goal

pub returns-then-touches : goal.returns-then-touches
returns-then-touches c =
    let task = task_of c.args.task.now in
    let found = schema_found (slice_get task.schemas c.loop-number.number) (shape_of c.in-Some.schema.now) c.in-Some.ensures.shape in
    fluent_here task c.args.predicate.0 c.loop-number.number found.0 found.1 c.loop-number.invariant (c.if-touches.ensures ∙ ap (λ (s : Shape). touches c.args.predicate.0 s.2) found.2)

pub loop-number-preserved : goal.loop-number-preserved
loop-number-preserved c =
    let task = task_of c.args.task.now in
    let found = schema_found (slice_get task.schemas c.loop-number.number) (shape_of c.in-Some.schema.now) c.in-Some.ensures.shape in
    fluent_later task c.args.predicate.0 c.loop-number.number found.0 found.1 c.loop-number.invariant (c.if-touches.ensures ∙ ap (λ (s : Shape). touches c.args.predicate.0 s.2) found.2)
