use Rattle.std.proofs.Common.{◌≡◌, [], ◌∷◌, refl}
use Rattle.printed_answers.specs.Members.{members_of}
use Rattle.printed_answers.specs.Objects.{of_refused}
use Rattle.printed_answers.proofs.JsonReported.{reported_as_meant}
use Rattle.printed_answers.proofs.objects.refused_object.Goals as goal

pub object_text-requires : goal.object_text-requires
object_text-requires c = rw (c.number-2.ensures, c.text.ensures, c.text-2.ensures, c.text-3.ensures) refl

pub returns : goal.returns
returns c =
    let same : members_of (c.number-2.result ∷ c.text.result ∷ c.text-2.result ∷ c.text-3.result ∷ []) ≡ of_refused c.args.code = rw (c.number-2.ensures, c.text.ensures, c.text-2.ensures, c.text-3.ensures, c.from.ensures, c.number.ensures, c.name.ensures) refl in
    reported_as_meant c.object_text.result (members_of (c.number-2.result ∷ c.text.result ∷ c.text-2.result ∷ c.text-3.result ∷ [])) (of_refused c.args.code) same c.object_text.ensures.text
