use Rattle.std.proofs.Common.{◌≡◌, map, refl}
use Rattle.std.specs.String.{string_bytes}
use Rattle.printed_answers.specs.ExplanationObjects.{of_beyond, of_task}
use Rattle.printed_answers.proofs.JsonReported.{reported_as_meant}
use Rattle.printed_answers.proofs.explanations.task_object.Goals as goal

pub returns-in-Beyond : goal.returns-in-Beyond
returns-in-Beyond c =
    let same : of_beyond c.args.task.now.holds c.limit_name.result.now (map string_bytes c.args.task.now.notes.now) c.args.task.now.lines.now ≡ of_task c.args.task.now.holds c.args.grounded (map string_bytes c.args.task.now.notes.now) c.args.task.now.lines.now = rw (c.in-Beyond.is, c.limit_name.ensures) refl in
    reported_as_meant c.beyond_object.result (of_beyond c.args.task.now.holds c.limit_name.result.now (map string_bytes c.args.task.now.notes.now) c.args.task.now.lines.now) (of_task c.args.task.now.holds c.args.grounded (map string_bytes c.args.task.now.notes.now) c.args.task.now.lines.now) same c.beyond_object.ensures
