use Rattle.std.proofs.Common.{◌≡◌, ◌++◌, map, take}
use Rattle.std.specs.String.{string_bytes}
use Rattle.task.specs.Task.{task_of}
use Rattle.explain_tasks.specs.NoteLines.{passed_line}
use Rattle.explain_tasks.proofs.ground_notes.GroundNotes.add_passed_over.Given as goal

-- the lines of the actions so far are added
abbrev pub invariant-loop-number : goal.invariant-loop-number
invariant-loop-number l =
    map string_bytes l.lines.items ≡ map string_bytes l.initial.lines.items ++ map (passed_line (task_of l.task) l.self.most) (take l.number-index l.self.passed_over.items)
