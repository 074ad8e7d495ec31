use Rattle.std.proofs.Common.{map}
use Rattle.std.specs.Prelude.{codes}
use Rattle.std.specs.String.{string_bytes}
use Rattle.task.specs.Task.{task_of}
use Rattle.formulas.specs.State.{instance_of}
use Rattle.explain_tasks.specs.NoteLines.{lacking_line}
use Rattle.explain_tasks.proofs.NoteLemmas.{with_more}
use Rattle.explain_tasks.proofs.printing.add_lacking.Goals as goal

pub returns-then-lacking-gt-MOST_NOTES : goal.returns-then-lacking-gt-MOST_NOTES
returns-then-lacking-gt-MOST_NOTES c =
    with_more c.add_text.result instance_of (lacking_line (task_of c.args.task.now)) (codes "More values that actions increase the total cost by are missing.") c.args.lacking.now c.reported.result.now
    (map string_bytes c.args.lines.now.items) (map string_bytes c.add_lacking_lines.new.lines.items) (map string_bytes c.add_text.new.lines.items)
    c.reported.ensures c.if-lacking-gt-MOST_NOTES.true c.in_ok-add_lacking_lines.ensures c.add_text.ensures
