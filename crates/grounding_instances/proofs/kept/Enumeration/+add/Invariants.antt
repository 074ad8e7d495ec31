use Rattle.std.proofs.Common.{◌≡◌, ◌≤◌, ◌++◌, map, length, drop}
use Rattle.std.specs.Prelude.{filter}
use Rattle.task.specs.Task.{task_of}
use Rattle.task.specs.TaskParts.{object_of}
use Rattle.formulas.specs.State.{instance_of}
use Rattle.model.specs.StaticallyFalse.{is_kept}
use Rattle.model.proofs.EnumerationLemmas.{begun}
use Rattle.grounding_instances.specs.Parameters.{choice_of, ranges_of}
use Rattle.grounding_instances.proofs.ChosenObjects.{begun_from}
use Rattle.grounding_instances.proofs.kept.Enumeration.+add.Given as goal

abbrev pub decreases-add : goal.decreases-add
decreases-add l = length l.prefix.left.now

-- what was found, together with the kept instances for the remaining next objects, is all
abbrev pub invariant-loop-object : goal.invariant-loop-object
invariant-loop-object l = record {
  all : map instance_of l.found.items
      ++ filter (is_kept (task_of l.self.statics.now.task.now)) (begun_from l.self.schema.0 (map object_of l.objects.items) (ranges_of (map choice_of l.rest)) (drop l.object-index (map object_of l.object-items)))
      ≡ map instance_of l.fn.found.items
      ++ filter (is_kept (task_of l.self.statics.now.task.now)) (begun l.self.schema.0 (map object_of l.objects.items) (ranges_of (map choice_of l.fn.prefix.left.now)));
  few : length l.found.items ≤ l.self.max;
}
