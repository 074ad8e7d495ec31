use Rattle.std.proofs.Common.{◌≡◌, ◌++◌, map, take}
use Rattle.std.specs.List.{flat_map}
use Rattle.std.specs.String.{string_bytes}
use Rattle.task.specs.Task.{task_of}
use Rattle.formulas.specs.State.{instance_of}
use Rattle.explain_tasks.specs.NoteLines.{lacking_line}
use Rattle.explain_tasks.proofs.printing.add_lacking_lines.Given as goal

-- the lines of the instances so far are added
abbrev pub invariant-loop-instance : goal.invariant-loop-instance
invariant-loop-instance l =
    map string_bytes l.lines.items ≡ map string_bytes l.initial.lines.items ++ flat_map (lacking_line (task_of l.task)) (map instance_of (take l.instance-index l.lacking))
