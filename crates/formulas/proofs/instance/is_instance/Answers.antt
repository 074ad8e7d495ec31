use Rattle.std.proofs.Common.{◌∙◌, map}
use Rattle.std.specs.Cmp.Lexicographic.{pointwise}
use Rattle.task.specs.TaskParts.{shape_of, object_of, union_of}
use Rattle.task.specs.Task.{task_of}
use Rattle.model.specs.Meaning.{is_of}
use Rattle.formulas.proofs.Instances.{instance_by_objects}
use Rattle.formulas.proofs.instance.is_instance.Goals as goal

pub returns-in-Some : goal.returns-in-Some
returns-in-Some c =
    let task = task_of c.args.task.now in
    c.are_of.ensures ∙ (λ i. pointwise (is_of task) (map union_of (c.deref.ensures.value i)) (map object_of (c.as_slice.ensures.value i)))
    ∙ instance_by_objects task c.args.instance.now.schema.0 (shape_of c.in-Some.schema.now) c.in-Some.ensures.shape (map object_of c.args.instance.now.objects.items)
