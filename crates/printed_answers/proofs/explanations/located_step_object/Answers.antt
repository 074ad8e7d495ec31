use Rattle.std.proofs.Common.{◌≡◌, [], ◌∷◌, refl}
use Rattle.std.specs.String.{string_bytes}
use Rattle.printed_answers.specs.Members.{members_of}
use Rattle.printed_answers.specs.ExplanationObjects.{of_located_step}
use Rattle.printed_answers.proofs.JsonReported.{reported_as_meant}
use Rattle.printed_answers.proofs.explanations.located_step_object.Goals as goal

pub object_text-requires : goal.object_text-requires
object_text-requires c = rw (c.number-column.ensures, c.text-command.ensures, c.text-file.ensures, c.number-length.ensures, c.number-line.ensures, c.text-result.ensures, c.number-numbered.ensures, c.text-text.ensures) refl

pub returns : goal.returns
returns c =
    let same : members_of (c.number-column.result ∷ c.text-command.result ∷ c.text-file.result ∷ c.number-length.result ∷ c.number-line.result ∷ c.text-result.result ∷ c.number-numbered.result ∷ c.text-text.result ∷ []) ≡ of_located_step c.args.step (string_bytes c.args.at.now.file) c.args.at.now.line c.args.at.now.column c.args.at.now.length c.args.lines.now = rw (c.number-column.ensures, c.text-command.ensures, c.text-file.ensures, c.as_str.ensures.value, c.number-length.ensures, c.number-line.ensures, c.text-result.ensures, c.number-numbered.ensures, c.text-text.ensures) refl in
    reported_as_meant c.object_text.result (members_of (c.number-column.result ∷ c.text-command.result ∷ c.text-file.result ∷ c.number-length.result ∷ c.number-line.result ∷ c.text-result.result ∷ c.number-numbered.result ∷ c.text-text.result ∷ [])) (of_located_step c.args.step (string_bytes c.args.at.now.file) c.args.at.now.line c.args.at.now.column c.args.at.now.length c.args.lines.now) same c.object_text.ensures.text
