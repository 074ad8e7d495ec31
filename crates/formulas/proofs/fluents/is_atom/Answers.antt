use Rattle.std.proofs.Common.{◌∙◌, map}
use Rattle.std.specs.Cmp.Lexicographic.{pointwise}
use Rattle.task.specs.Task.{task_of}
use Rattle.task.specs.TaskParts.{atom_of, object_of, union_of}
use Rattle.model.specs.Meaning.{is_of}
use Rattle.formulas.proofs.FluentTests.{atom_by_objects}
use Rattle.formulas.proofs.fluents.is_atom.Goals as goal

pub returns : goal.returns
returns c =
    let task = task_of c.args.task.now in
    c.are_of.ensures ∙ (λ i. pointwise (is_of task) (map union_of (c.deref.ensures.value i)) (map object_of (c.as_slice.ensures.value i)))
    ∙ atom_by_objects task (atom_of c.args.atom.now) (map union_of c.in-Some.predicate.now.arguments.items) c.in-Some.ensures
