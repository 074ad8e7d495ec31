use Rattle.std.proofs.Common.{◌≡◌, [], ◌∷◌, refl}
use Rattle.printed_answers.specs.Members.{members_of}
use Rattle.printed_answers.specs.ExplainedCheckReported.{of_accepted}
use Rattle.printed_answers.proofs.JsonReported.{reported_as_meant}
use Rattle.printed_answers.proofs.explained_check.accepted_object.Goals as goal

pub object_text-requires : goal.object_text-requires
object_text-requires c = rw (c.text-command.ensures, c.number-cost.ensures, c.text-result.ensures, c.text-text.ensures) refl

pub returns-in-Optimal : goal.returns-in-Optimal
returns-in-Optimal c =
    let same : members_of (c.text-command.result ∷ c.number-cost.result ∷ c.text-result.result ∷ c.text-text.result ∷ []) ≡ of_accepted c.args.accepted c.args.lines.now = rw (c.text-command.ensures, c.number-cost.ensures, c.text-result.ensures, c.text-text.ensures, c.in-Optimal.is) refl in
    reported_as_meant c.object_text.result (members_of (c.text-command.result ∷ c.number-cost.result ∷ c.text-result.result ∷ c.text-text.result ∷ [])) (of_accepted c.args.accepted c.args.lines.now) same c.object_text.ensures.text

pub object_text-requires-in-AtLeast : goal.object_text-requires-in-AtLeast
object_text-requires-in-AtLeast c = rw (c.text-command.ensures, c.number-cost-in-AtLeast.ensures, c.text-result-in-AtLeast.ensures, c.text-text.ensures) refl

pub returns-in-AtLeast : goal.returns-in-AtLeast
returns-in-AtLeast c =
    let same : members_of (c.text-command.result ∷ c.number-cost-in-AtLeast.result ∷ c.text-result-in-AtLeast.result ∷ c.text-text.result ∷ []) ≡ of_accepted c.args.accepted c.args.lines.now = rw (c.text-command.ensures, c.number-cost-in-AtLeast.ensures, c.text-result-in-AtLeast.ensures, c.text-text.ensures, c.in-AtLeast.is) refl in
    reported_as_meant c.object_text-in-AtLeast.result (members_of (c.text-command.result ∷ c.number-cost-in-AtLeast.result ∷ c.text-result-in-AtLeast.result ∷ c.text-text.result ∷ [])) (of_accepted c.args.accepted c.args.lines.now) same c.object_text-in-AtLeast.ensures.text

pub object_text-requires-in-Unsolvable : goal.object_text-requires-in-Unsolvable
object_text-requires-in-Unsolvable c = rw (c.text-command.ensures, c.text-result-in-Unsolvable.ensures, c.text-text.ensures) refl

pub returns-in-Unsolvable : goal.returns-in-Unsolvable
returns-in-Unsolvable c =
    let same : members_of (c.text-command.result ∷ c.text-result-in-Unsolvable.result ∷ c.text-text.result ∷ []) ≡ of_accepted c.args.accepted c.args.lines.now = rw (c.text-command.ensures, c.text-result-in-Unsolvable.ensures, c.text-text.ensures, c.in-Unsolvable.is) refl in
    reported_as_meant c.object_text-in-Unsolvable.result (members_of (c.text-command.result ∷ c.text-result-in-Unsolvable.result ∷ c.text-text.result ∷ [])) (of_accepted c.args.accepted c.args.lines.now) same c.object_text-in-Unsolvable.ensures.text
