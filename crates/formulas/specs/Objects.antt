-- The objects that a variable ranges over, in the model's terms.
use Rattle.std.specs.Prelude.{ℕ, ◌-◌, List, length, filter}
use Rattle.std.specs.List.{range_with_len}
use Rattle.task.specs.Task.{task_of}
use Rattle.task.specs.TaskParts.{union_of}
use Rattle.formulas.specs.declared.objects.Objects.{Objects}
use Rattle.model.specs.Meaning.{is_of}

-- the remaining objects of the types, in order
abbrev pub objects_left : Objects → List ℕ
objects_left o =
    let count = length (task_of o.task.now).objects in
    filter (is_of (task_of o.task.now) (union_of o.types.now)) (range_with_len o.next (count - o.next))
