use Rattle.std.proofs.Common.{◌≡◌, false, map, take}
use Rattle.std.specs.List.{list_any}
use Rattle.task.specs.Task.{task_of}
use Rattle.task.specs.TaskParts.{object_of}
use Rattle.model.specs.StaticallyFalse as statically_false
use Rattle.grounding_instances.specs.Parameters.{lent_formula}
use Rattle.grounding_instances.proofs.statics.Statics.literal_is_statically_false.Given as goal

-- none of the literals so far is statically false
abbrev pub invariant-loop-literal : goal.invariant-loop-literal
invariant-loop-literal l =
    list_any (λ part. statically_false.is_statically_false (task_of l.self.task.now) (lent_formula part) (map object_of l.binding.items)) (take l.literal-index l.literals) ≡ false
