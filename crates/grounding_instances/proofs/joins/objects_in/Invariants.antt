use Rattle.std.proofs.Common.{◌≡◌, filter, map}
use Rattle.std.specs.Map.Iter.{deref}
use Rattle.task.specs.declared.atoms.ObjectId.{ObjectId}
use Rattle.task.specs.Task.{task_of}
use Rattle.task.specs.TaskParts.{union_of}
use Rattle.model.specs.Meaning.{is_of}
use Rattle.grounding_instances.proofs.joins.objects_in.Given as goal

-- the objects so far that are of the types
abbrev pub invariant-loop-object : goal.invariant-loop-object
invariant-loop-object l = l.found.items ≡ filter (λ (o : ObjectId). is_of (task_of l.task) (union_of l.types) o.0) (map deref l.yielded)
