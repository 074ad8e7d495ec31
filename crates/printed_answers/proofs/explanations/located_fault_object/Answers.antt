use Rattle.std.proofs.Common.{◌≡◌, [], ◌∷◌, map, refl}
use Rattle.std.specs.String.{string_bytes}
use Rattle.printed_answers.specs.Members.{members_of}
use Rattle.printed_answers.specs.ExplanationObjects.{of_located_fault}
use Rattle.printed_answers.proofs.JsonReported.{reported_as_meant}
use Rattle.printed_answers.proofs.explanations.located_fault_object.Goals as goal

pub object_text-requires : goal.object_text-requires
object_text-requires c = rw (c.number-numbered.ensures, c.number-column.ensures, c.text-command.ensures, c.text-file.ensures, c.texts-others.ensures, c.texts-hints.ensures, c.number-length.ensures, c.number-line.ensures, c.text-named.ensures, c.text-result.ensures, c.text-text.ensures) refl

pub returns : goal.returns
returns c =
    let same : members_of (c.number-numbered.result ∷ c.number-column.result ∷ c.text-command.result ∷ c.text-file.result ∷ c.texts-others.result ∷ c.texts-hints.result ∷ c.number-length.result ∷ c.number-line.result ∷ c.text-named.result ∷ c.text-result.result ∷ c.text-text.result ∷ []) ≡ of_located_fault c.args.fault.now.code (string_bytes c.args.at.now.file) c.args.at.now.line c.args.at.now.column c.args.at.now.length (map string_bytes c.args.fault.now.further.now) (map string_bytes c.args.fault.now.hints.now) c.args.fault.now.lines.now = rw (c.number-numbered.ensures, c.number-column.ensures, c.text-command.ensures, c.text-file.ensures, c.as_str.ensures.value, c.texts-others.ensures, c.texts-hints.ensures, c.number-length.ensures, c.number-line.ensures, c.text-named.ensures, c.text-result.ensures, c.text-text.ensures, c.from.ensures, c.number.ensures, c.name.ensures) refl in
    reported_as_meant c.object_text.result (members_of (c.number-numbered.result ∷ c.number-column.result ∷ c.text-command.result ∷ c.text-file.result ∷ c.texts-others.result ∷ c.texts-hints.result ∷ c.number-length.result ∷ c.number-line.result ∷ c.text-named.result ∷ c.text-result.result ∷ c.text-text.result ∷ [])) (of_located_fault c.args.fault.now.code (string_bytes c.args.at.now.file) c.args.at.now.line c.args.at.now.column c.args.at.now.length (map string_bytes c.args.fault.now.further.now) (map string_bytes c.args.fault.now.hints.now) c.args.fault.now.lines.now) same c.object_text.ensures.text
