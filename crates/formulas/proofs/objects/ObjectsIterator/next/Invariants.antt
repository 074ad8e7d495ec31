use Rattle.std.proofs.Common.{◌≡◌, length}
use Rattle.task.specs.TaskParts.{union_of}
use Rattle.task.specs.Task.{task_of}
use Rattle.formulas.specs.Objects.{objects_left}
use Rattle.formulas.proofs.ObjectWalk.{from_on}
use Rattle.model.specs.Meaning.{is_of}
use Rattle.formulas.proofs.objects.ObjectsIterator.next.Given as goal

-- no number so far is one of the remaining ones
abbrev pub invariant-loop-number : goal.invariant-loop-number
invariant-loop-number l =
    (l.self ≡ l.initial.self)
    × (objects_left l.initial.self ≡ from_on (is_of (task_of l.self.task.now) (union_of l.self.types.now)) (length (task_of l.self.task.now).objects) l.number)
