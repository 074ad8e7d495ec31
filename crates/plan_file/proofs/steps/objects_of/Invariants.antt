use Rattle.std.proofs.Common.{◌≡◌, true, length, map, take}
use Rattle.std.specs.Cmp.Lexicographic.{pointwise}
use Rattle.task.specs.Task.{task_of}
use Rattle.task.specs.TaskParts.{object_of, union_of}
use Rattle.model.specs.Meaning.{is_of}
use Rattle.model.specs.PlanText.{AreNumbersOf, object_names}
use Rattle.plan_file.specs.PlanFile.{name_of}
use Rattle.plan_file.proofs.steps.objects_of.Given as goal

-- the objects so far are those of the names so far, and of the types at their indices
abbrev pub invariant-loop-types : goal.invariant-loop-types
invariant-loop-types l =
    let task = task_of l.task in
    let objects = map object_of l.objects.items in
    record {
      are : AreNumbersOf (object_names task) (map name_of (take (length l.yielded) l.names)) objects;
      fit : pointwise (is_of task) (map union_of (take (length l.yielded) l.parameters)) objects ≡ true;
      count : length l.objects.items ≡ length l.yielded;
    }
