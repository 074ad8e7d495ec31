use Rattle.std.proofs.Common.{map}
use Rattle.task.specs.Task.{task_of}
use Rattle.task.specs.TaskParts.{object_of, shape_of}
use Rattle.formulas.proofs.Instances.{precondition_fits}
use Rattle.grounding_instances.proofs.statics.Statics.is_kept.Goals as goal

pub is_statically_false-requires : goal.is_statically_false-requires
is_statically_false-requires c =
    precondition_fits (task_of c.args.self.now.task.now) c.args.instance.now.schema.0 (shape_of c.in-Some.schema.now) c.in-Some.ensures.shape
    (map object_of c.args.instance.now.objects.items) c.requires c.args.self.now.task.now.well_typed
