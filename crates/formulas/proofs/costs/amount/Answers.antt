use Rattle.std.proofs.Common.{ap, map}
use Rattle.task.specs.TaskParts.{increase_of, object_of, shape_of}
use Rattle.task.specs.Task.{task_of}
use Rattle.formulas.proofs.Instances.{function_few}
use Rattle.formulas.proofs.costs.amount.Goals as goal

pub ground_atom-requires : goal.ground_atom-requires
ground_atom-requires c =
    function_few (task_of c.args.task.now) c.args.instance.now.schema.0 (shape_of c.in_ok-schema.schema.now) c.in_ok-schema.ensures.shape
    (map object_of c.args.instance.now.objects.items) c.in-Function.function (ap increase_of c.in-Function.is) c.args.task.now.well_typed
