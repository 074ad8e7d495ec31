use Rattle.std.proofs.Common.{◌≡◌, [], ◌∷◌, map, refl}
use Rattle.std.specs.String.{string_bytes}
use Rattle.printed_answers.specs.Members.{members_of}
use Rattle.printed_answers.specs.ExplanationObjects.{of_beyond}
use Rattle.printed_answers.proofs.JsonReported.{reported_as_meant}
use Rattle.printed_answers.proofs.explanations.beyond_object.Goals as goal

pub object_text-requires : goal.object_text-requires
object_text-requires c = rw (c.number-actions.ensures, c.text-command.ensures, c.number-functions.ensures, c.texts-notes.ensures, c.number-objects.ensures, c.number-predicates.ensures, c.text-reason.ensures, c.text-result.ensures, c.text-text.ensures, c.number-types.ensures) refl

pub returns : goal.returns
returns c =
    let same : members_of (c.number-actions.result ∷ c.text-command.result ∷ c.number-functions.result ∷ c.texts-notes.result ∷ c.number-objects.result ∷ c.number-predicates.result ∷ c.text-reason.result ∷ c.text-result.result ∷ c.text-text.result ∷ c.number-types.result ∷ []) ≡ of_beyond c.args.task.now.holds c.args.limit.now (map string_bytes c.args.task.now.notes.now) c.args.task.now.lines.now = rw (c.number-actions.ensures, c.text-command.ensures, c.number-functions.ensures, c.texts-notes.ensures, c.number-objects.ensures, c.number-predicates.ensures, c.text-reason.ensures, c.text-result.ensures, c.text-text.ensures, c.number-types.ensures) refl in
    reported_as_meant c.object_text.result (members_of (c.number-actions.result ∷ c.text-command.result ∷ c.number-functions.result ∷ c.texts-notes.result ∷ c.number-objects.result ∷ c.number-predicates.result ∷ c.text-reason.result ∷ c.text-result.result ∷ c.text-text.result ∷ c.number-types.result ∷ [])) (of_beyond c.args.task.now.holds c.args.limit.now (map string_bytes c.args.task.now.notes.now) c.args.task.now.lines.now) same c.object_text.ensures.text
