use Rattle.std.proofs.Common.{map, sym, subst, ap, ◌∙◌}
use Rattle.task.specs.TaskParts.{shape_of, object_of}
use Rattle.task.specs.Task.{task_of}
use Rattle.formulas.specs.State.{instance_of, FitsChanges}
use Rattle.formulas.specs.Effects.{change_of}
use Rattle.formulas.proofs.ChangesFit.{instance-changes-fit}
use Rattle.formulas.proofs.Instances.{precondition_fits}
use Rattle.formulas.proofs.change.advance.Goals as goal

pub holds-requires : goal.holds-requires
holds-requires c =
    precondition_fits (task_of c.args.task.now) c.args.instance.now.schema.0 (shape_of c.in-Some.schema.now) c.in-Some.ensures.shape
    (map object_of c.args.instance.now.objects.items) c.requires c.args.task.now.well_typed

pub literals_made-requires : goal.literals_made-requires
literals_made-requires c =
    let task = task_of c.args.task.now in
    subst (FitsChanges task) (sym c.in_ok-found.ensures ∙ ap (map change_of) (sym c.deref.ensures.value)) (instance-changes-fit task c.args.task.now.well_typed (instance_of c.args.instance.now) c.requires)
