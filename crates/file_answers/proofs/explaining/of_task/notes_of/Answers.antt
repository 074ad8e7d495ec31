use Rattle.std.proofs.Common.{◌≡◌, ◌∙◌, List, [], ◌++◌, ℕ, ap, map, subst}
use Rattle.std.specs.String.{string_bytes}
use Rattle.task.specs.Task.{task_of}
use Rattle.explain_tasks.specs.NoteLines.{ground_lines}
use Rattle.file_answers.proofs.explaining.of_task.notes_of.Goals as goal

pub returns : goal.returns
returns c = record {
  ground = c.in_ok-notes.notes;
  are_ground = c.in_ok-notes.ensures;
  of_goal = c.in_ok-add_lines-2.ensures.0;
  stated = c.in_ok-add_lines-2.ensures.1
      ∙ ap (λ l. l ++ c.in_ok-add_lines-2.ensures.0) (c.in_ok-add_lines.ensures ∙ ap (λ l. map string_bytes l ++ ground_lines (task_of c.task-task.result.now) c.in_ok-notes.notes) c.new-lines.ensures.items ∙ ap (λ t. ground_lines t c.in_ok-notes.notes) c.task-task.ensures);
}
