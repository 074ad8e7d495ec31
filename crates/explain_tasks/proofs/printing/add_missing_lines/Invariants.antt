use Rattle.std.proofs.Common.{◌≡◌, ◌++◌, map, take}
use Rattle.std.specs.List.{flat_map}
use Rattle.std.specs.String.{string_bytes}
use Rattle.task.specs.Task.{task_of}
use Rattle.task.specs.TaskParts.{atom_of}
use Rattle.explain_tasks.specs.NoteLines.{missing_line}
use Rattle.explain_tasks.proofs.printing.add_missing_lines.Given as goal

-- the lines of the atoms so far are added
abbrev pub invariant-loop-atom : goal.invariant-loop-atom
invariant-loop-atom l =
    map string_bytes l.lines.items ≡ map string_bytes l.initial.lines.items ++ flat_map (missing_line (task_of l.task)) (map atom_of (take l.atom-index l.atoms))
