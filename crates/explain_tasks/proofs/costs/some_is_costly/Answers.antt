use Rattle.std.proofs.Common.{◌∙◌, ap}
use Rattle.std.specs.Prelude.{slice_get}
use Rattle.task.specs.Task.{task_of}
use Rattle.task.specs.TaskParts.{shape_of}
use Rattle.task.proofs.Shapes.{Shape, found as schema_found}
use Rattle.explain_tasks.specs.Costs.{is_costly}
use Rattle.explain_tasks.proofs.CostLemmas.{any_here, any_later}
use Rattle.explain_tasks.proofs.costs.some_is_costly.Goals as goal

pub returns-then-is_costly : goal.returns-then-is_costly
returns-then-is_costly c =
    let schemas = (task_of c.args.task.now).schemas in
    let found = schema_found (slice_get schemas c.loop-number.number) (shape_of c.in-Some.schema.now) c.in-Some.ensures.shape in
    any_here (λ s. is_costly s.increase) schemas c.loop-number.number found.0 found.1 c.loop-number.invariant (c.if-is_costly.ensures ∙ ap (λ (s : Shape). is_costly s.3) found.2)

pub loop-number-preserved : goal.loop-number-preserved
loop-number-preserved c =
    let schemas = (task_of c.args.task.now).schemas in
    let found = schema_found (slice_get schemas c.loop-number.number) (shape_of c.in-Some.schema.now) c.in-Some.ensures.shape in
    any_later (λ s. is_costly s.increase) schemas c.loop-number.number found.0 found.1 c.loop-number.invariant (c.if-is_costly.ensures ∙ ap (λ (s : Shape). is_costly s.3) found.2)
