use Rattle.std.proofs.Common.{map}
use Rattle.std.specs.String.{string_bytes}
use Rattle.task.specs.Task.{task_of}
use Rattle.task.specs.TaskParts.{atom_of}
use Rattle.explain_tasks.specs.NoteLines.{missing_line}
use Rattle.explain_tasks.proofs.NoteLemmas.{line_more}
use Rattle.explain_tasks.proofs.printing.add_missing_lines.Goals as goal

pub loop-atom-preserved : goal.loop-atom-preserved
loop-atom-preserved c =
    line_more atom_of (missing_line (task_of c.args.task.now)) c.args.atoms.now c.loop-atom.atom-index c.atom-item.result (map string_bytes c.args.lines.now.items) (map string_bytes c.loop-atom.lines.items)
    (map string_bytes c.add_missing_line.new.lines.items) c.loop-atom-test.true c.atom-item.is c.loop-atom.invariant c.in_ok-add_missing_line.ensures
