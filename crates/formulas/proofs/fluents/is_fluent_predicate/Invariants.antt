use Rattle.std.proofs.Common.{◌≡◌, drop}
use Rattle.std.specs.List.{list_any}
use Rattle.task.specs.Task.{task_of}
use Rattle.model.specs.Task.{Schema}
use Rattle.model.specs.Fluents as defined
use Rattle.formulas.proofs.fluents.is_fluent_predicate.Given as goal

-- the remaining schemas decide
abbrev pub invariant-loop-number : goal.invariant-loop-number
invariant-loop-number l =
    defined.is_fluent (task_of l.task) l.predicate.0
    ≡ list_any (λ (s : Schema). defined.touches l.predicate.0 s.effect) (drop l.number (task_of l.task).schemas)
