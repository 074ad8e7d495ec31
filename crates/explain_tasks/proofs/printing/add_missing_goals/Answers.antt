use Rattle.std.proofs.Common.{map}
use Rattle.std.specs.Prelude.{codes}
use Rattle.std.specs.String.{string_bytes}
use Rattle.task.specs.Task.{task_of}
use Rattle.task.specs.TaskParts.{atom_of}
use Rattle.explain_tasks.specs.NoteLines.{missing_line}
use Rattle.explain_tasks.proofs.NoteLemmas.{with_more}
use Rattle.explain_tasks.proofs.printing.add_missing_goals.Goals as goal

pub returns-then-atoms-gt-MOST_NOTES : goal.returns-then-atoms-gt-MOST_NOTES
returns-then-atoms-gt-MOST_NOTES c =
    with_more c.add_text.result atom_of (missing_line (task_of c.args.task.now)) (codes "The goal asks for more atoms that are never true.") c.args.atoms.now c.reported.result.now
    (map string_bytes c.args.lines.now.items) (map string_bytes c.add_missing_lines.new.lines.items) (map string_bytes c.add_text.new.lines.items)
    c.reported.ensures c.if-atoms-gt-MOST_NOTES.true c.in_ok-add_missing_lines.ensures c.add_text.ensures
