use Rattle.std.proofs.Common.{◌≡◌, ◌≤◌, ◌++◌, map, length}
use Rattle.std.specs.Prelude.{filter}
use Rattle.task.specs.Task.{task_of}
use Rattle.formulas.specs.State.{instance_of}
use Rattle.model.specs.StaticallyFalse.{is_kept, kept_instances}
use Rattle.model.proofs.EnumerationLemmas.{instances_left}
use Rattle.grounding_instances.proofs.kept.kept_instances.Given as goal

-- what was found, together with the kept instances of the remaining schemas, is all
abbrev pub invariant-loop-number : goal.invariant-loop-number
invariant-loop-number l = record {
  all : map instance_of l.found.items ++ filter (is_kept (task_of l.statics.task.now)) (instances_left (task_of l.statics.task.now) l.number) ≡ kept_instances (task_of l.statics.task.now);
  few : length l.found.items ≤ l.max;
}
