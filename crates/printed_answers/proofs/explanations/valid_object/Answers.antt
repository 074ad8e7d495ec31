use Rattle.std.proofs.Common.{◌≡◌, [], ◌∷◌, refl}
use Rattle.printed_answers.specs.Members.{members_of}
use Rattle.printed_answers.specs.ExplanationObjects.{of_valid}
use Rattle.printed_answers.proofs.JsonReported.{reported_as_meant}
use Rattle.printed_answers.proofs.explanations.valid_object.Goals as goal

pub object_text-requires : goal.object_text-requires
object_text-requires c = rw (c.text-command.ensures, c.number-total.ensures, c.text-result.ensures, c.text-text.ensures) refl

pub returns : goal.returns
returns c =
    let same : members_of (c.text-command.result ∷ c.number-total.result ∷ c.text-result.result ∷ c.text-text.result ∷ []) ≡ of_valid c.args.cost c.args.lines.now = rw (c.text-command.ensures, c.number-total.ensures, c.text-result.ensures, c.text-text.ensures) refl in
    reported_as_meant c.object_text.result (members_of (c.text-command.result ∷ c.number-total.result ∷ c.text-result.result ∷ c.text-text.result ∷ [])) (of_valid c.args.cost c.args.lines.now) same c.object_text.ensures.text
