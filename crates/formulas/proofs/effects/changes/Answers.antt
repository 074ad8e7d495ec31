use Rattle.std.proofs.Common.{map}
use Rattle.task.specs.Task.{task_of}
use Rattle.task.specs.TaskParts.{object_of, shape_of}
use Rattle.formulas.proofs.Instances.{effect_fits}
use Rattle.formulas.proofs.effects.changes.Goals as goal

pub add_changes-requires : goal.add_changes-requires
add_changes-requires c =
    effect_fits (task_of c.args.task.now) c.args.instance.now.schema.0 (shape_of c.in-Some.schema.now) c.in-Some.ensures.shape
    (map object_of c.args.instance.now.objects.items) c.requires c.args.task.now.well_typed
