use Rattle.std.proofs.Common.{◌≡◌, ◌∙◌, Some, ap, map}
use Rattle.std.specs.Prelude.{slice_get}
use Rattle.std.specs.Option.{option_map}
use Rattle.task.specs.TaskParts.{object_of, shape_of, shape_of_schema}
use Rattle.formulas.proofs.Instances.{precondition_fits}
use Rattle.grounding_instances.specs.Numbering.{task_in}
use Rattle.model.specs.Task.{Task}
use Rattle.grounding.proofs.parts.precondition.Goals as goal

pub new-requires : goal.new-requires
new-requires c =
    let n = c.args.numbering.now in
    let i = c.args.instance.now in
    let shape = shape_of c.in-Some.schema.now in
    let is : Some shape ≡ option_map shape_of_schema (slice_get (task_in n).schemas i.schema.0) =
    c.in-Some.ensures.shape ∙ ap (λ (t : Task). option_map shape_of_schema (slice_get t.schemas i.schema.0)) c.task.ensures in
    precondition_fits (task_in n) i.schema.0 shape is (map object_of i.objects.items) c.requires n.statics.task.now.well_typed
