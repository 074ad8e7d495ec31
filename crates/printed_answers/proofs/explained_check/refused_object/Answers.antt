use Rattle.std.proofs.Common.{◌≡◌, [], ◌∷◌, refl}
use Rattle.printed_answers.specs.Members.{members_of}
use Rattle.printed_answers.specs.ExplainedCheckReported.{of_refused}
use Rattle.printed_answers.proofs.JsonReported.{reported_as_meant}
use Rattle.printed_answers.proofs.explained_check.refused_object.Goals as goal

pub object_text-requires : goal.object_text-requires
object_text-requires c = rw (c.number-numbered.ensures, c.text-command.ensures, c.text-named.ensures, c.text-result.ensures, c.text-text.ensures) refl

pub returns : goal.returns
returns c =
    let same : members_of (c.number-numbered.result ∷ c.text-command.result ∷ c.text-named.result ∷ c.text-result.result ∷ c.text-text.result ∷ []) ≡ of_refused c.args.code c.args.lines.now = rw (c.number-numbered.ensures, c.text-command.ensures, c.text-named.ensures, c.text-result.ensures, c.text-text.ensures, c.from.ensures, c.number.ensures, c.name.ensures) refl in
    reported_as_meant c.object_text.result (members_of (c.number-numbered.result ∷ c.text-command.result ∷ c.text-named.result ∷ c.text-result.result ∷ c.text-text.result ∷ [])) (of_refused c.args.code c.args.lines.now) same c.object_text.ensures.text
