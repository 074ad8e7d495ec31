use Rattle.std.proofs.Common.{◌≡◌, ◌++◌, map, take}
use Rattle.std.specs.List.{flat_map}
use Rattle.task.specs.Task.{task_of}
use Rattle.task.specs.TaskParts.{term_of}
use Rattle.formulas.specs.State.{instance_of}
use Rattle.model.specs.Meaning.{object_of}
use Rattle.model.specs.PlanWriting.{object_text}
use Rattle.explain_tasks.proofs.printing.add_function.Given as goal

-- the objects of the terms so far are added
abbrev pub invariant-loop-term : goal.invariant-loop-term
invariant-loop-term l =
    l.line.items ≡ l.initial.line.items ++ flat_map (object_text (task_of l.task)) (map (object_of (instance_of l.instance).objects) (map term_of (take l.term-index l.function.terms.items)))
