use Rattle.std.proofs.Common.{◌≡◌, Some, map, subst, sym}
use Rattle.std.specs.Prelude.{IsTrue, slice_get}
use Rattle.std.specs.Option.{option_map}
use Rattle.task.specs.Task.{task_of}
use Rattle.task.specs.TaskParts.{object_of, shape_of, shape_of_schema}
use Rattle.formulas.specs.State.{instance_of}
use Rattle.formulas.proofs.Instances.{precondition_fits}
use Rattle.model.specs.Meaning.{is_instance}
use Rattle.model.specs.Task.{Task}
use Rattle.explain_goals.proofs.relaxation.Relaxation.precondition.Goals as goal

pub sure-requires : goal.sure-requires
sure-requires c =
    let u = c.task-task.result.now in
    let i = c.args.instance.now in
    let belongs : IsTrue (is_instance (task_of u) (instance_of i)) = subst (λ (t : Task). IsTrue (is_instance t (instance_of i))) (sym c.task-task.ensures) c.requires in
    let is : Some (shape_of c.in-Some.schema.now) ≡ option_map shape_of_schema (slice_get (task_of u).schemas i.schema.0) = c.in-Some.ensures.shape in
    precondition_fits (task_of u) i.schema.0 (shape_of c.in-Some.schema.now) is (map object_of i.objects.items) belongs u.well_typed
