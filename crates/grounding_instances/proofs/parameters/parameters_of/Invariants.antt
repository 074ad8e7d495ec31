use Rattle.std.proofs.Common.{◌≡◌, map, take, length}
use Rattle.task.specs.Task.{task_of}
use Rattle.task.specs.TaskParts.{formula_of, union_of}
use Rattle.grounding_instances.specs.Parameters.{choice_of, choices_from}
use Rattle.grounding_instances.specs.Joins.{AreJoined}
use Rattle.grounding_instances.proofs.parameters.parameters_of.Given as goal

-- the parameters so far
abbrev pub invariant-loop-types : goal.invariant-loop-types
invariant-loop-types l =
    (map choice_of l.parameters.items ≡ choices_from (task_of l.statics.task.now) (formula_of l.schema.precondition) 0 (map union_of (take l.types-index l.types-items)))
    × (length l.parameters.items ≡ l.types-index)
    × AreJoined (task_of l.statics.task.now) 0 l.parameters.items
