use Rattle.std.proofs.Common.{◌≡◌, ◌∙◌, ap, sym, Some, slice_get, arith}
use Rattle.std.specs.Option.{option_map}
use Rattle.std.proofs.lemmas.List.{length-map}
use Rattle.std.proofs.lemmas.Option.{slice_get-map}
use Rattle.task.specs.TaskParts.{shape_of, shape_of_schema, schema_of, union_of}
use Rattle.task.specs.Task.{task_of}
use Rattle.task.proofs.Shapes.{few_parameters}
use Rattle.task.proofs.task.Task.schema.Goals as goal

pub returns-clause-few : goal.returns-clause-few
returns-clause-few c =
    let entries = c.args.self.now.parts.schemas.entries in
    let shape : Some (shape_of c.in_ok-schema.schema.now) ≡ option_map shape_of_schema (slice_get (task_of c.args.self.now).schemas c.args.id.0) =
    ap (λ o. option_map shape_of_schema (option_map schema_of o)) c.in_ok-schema.ensures.entry ∙ sym (ap (option_map shape_of_schema) (slice_get-map schema_of entries c.args.id.0)) in
    let parameters = c.in_ok-schema.schema.now.parameters.items in
    omega (arith, few_parameters (task_of c.args.self.now) c.args.id.0 (shape_of c.in_ok-schema.schema.now) shape c.args.self.now.well_typed, length-map parameters union_of)
