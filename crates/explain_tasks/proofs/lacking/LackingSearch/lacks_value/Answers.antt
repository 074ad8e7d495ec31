use Rattle.std.proofs.Common.{◌∙◌, map, subst, sym}
use Rattle.task.specs.Task.{task_of}
use Rattle.task.specs.TaskParts.{formula_of, object_of, shape_of}
use Rattle.formulas.specs.State.{FitsFormula}
use Rattle.formulas.proofs.Instances.{precondition_fits}
use Rattle.explain_tasks.proofs.lacking.LackingSearch.lacks_value.Goals as goal

pub is_statically_false-requires : goal.is_statically_false-requires
is_statically_false-requires c =
    let t = c.task-task.result.now in
    let objects = map object_of c.args.instance.now.objects.items in
    subst (λ u. FitsFormula u (formula_of c.in-Some.schema.now.precondition) objects) c.task-task.ensures
    (precondition_fits (task_of t) c.args.instance.now.schema.0 (shape_of c.in-Some.schema.now) c.in-Some.ensures.shape objects (sym c.is_instance.ensures ∙ c.if-not-is_instance.false) t.well_typed)
