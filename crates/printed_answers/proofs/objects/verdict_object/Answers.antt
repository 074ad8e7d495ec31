use Rattle.std.proofs.Common.{◌≡◌, [], ◌∷◌, refl}
use Rattle.printed_answers.specs.Members.{members_of}
use Rattle.validator.specs.Verdict.{verdict_of}
use Rattle.printed_answers.specs.Objects.{of_verdict}
use Rattle.printed_answers.proofs.JsonReported.{reported_as_meant}
use Rattle.printed_answers.proofs.objects.verdict_object.Goals as goal

pub object_text-requires : goal.object_text-requires
object_text-requires c = rw (c.text-command.ensures, c.number-cost.ensures, c.text.ensures) refl

pub returns-in-Valid : goal.returns-in-Valid
returns-in-Valid c =
    let same : members_of (c.text-command.result ∷ c.number-cost.result ∷ c.text.result ∷ []) ≡ of_verdict (verdict_of c.args.verdict) = rw (c.text-command.ensures, c.number-cost.ensures, c.text.ensures, c.in-Valid.is) refl in
    reported_as_meant c.object_text.result (members_of (c.text-command.result ∷ c.number-cost.result ∷ c.text.result ∷ [])) (of_verdict (verdict_of c.args.verdict)) same c.object_text.ensures.text

pub object_text-requires-in-NotApplicable : goal.object_text-requires-in-NotApplicable
object_text-requires-in-NotApplicable c = rw (c.text-command.ensures, c.text-result.ensures, c.number.ensures) refl

pub returns-in-NotApplicable : goal.returns-in-NotApplicable
returns-in-NotApplicable c =
    let same : members_of (c.text-command.result ∷ c.text-result.result ∷ c.number.result ∷ []) ≡ of_verdict (verdict_of c.args.verdict) = rw (c.text-command.ensures, c.text-result.ensures, c.number.ensures, c.in-NotApplicable.is) refl in
    reported_as_meant c.object_text-in-NotApplicable.result (members_of (c.text-command.result ∷ c.text-result.result ∷ c.number.result ∷ [])) (of_verdict (verdict_of c.args.verdict)) same c.object_text-in-NotApplicable.ensures.text

pub object_text-requires-in-GoalMissed : goal.object_text-requires-in-GoalMissed
object_text-requires-in-GoalMissed c = rw (c.text-command.ensures, c.text-in-GoalMissed.ensures) refl

pub returns-in-GoalMissed : goal.returns-in-GoalMissed
returns-in-GoalMissed c =
    let same : members_of (c.text-command.result ∷ c.text-in-GoalMissed.result ∷ []) ≡ of_verdict (verdict_of c.args.verdict) = rw (c.text-command.ensures, c.text-in-GoalMissed.ensures, c.in-GoalMissed.is) refl in
    reported_as_meant c.object_text-in-GoalMissed.result (members_of (c.text-command.result ∷ c.text-in-GoalMissed.result ∷ [])) (of_verdict (verdict_of c.args.verdict)) same c.object_text-in-GoalMissed.ensures.text
