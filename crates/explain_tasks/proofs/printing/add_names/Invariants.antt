use Rattle.std.proofs.Common.{◌≡◌, ◌++◌, take}
use Rattle.std.specs.List.{flat_map}
use Rattle.task.specs.Task.{task_of}
use Rattle.explain_tasks.specs.KindNames.{name_by}
use Rattle.explain_tasks.specs.NoteLines.{next_text}
use Rattle.explain_tasks.proofs.printing.add_names.Given as goal

-- the names so far are added
abbrev pub invariant-loop-number : goal.invariant-loop-number
invariant-loop-number l =
    l.line.items ≡ l.initial.line.items ++ flat_map (next_text (name_by (task_of l.task) l.kind)) (take l.number-index l.numbers)
