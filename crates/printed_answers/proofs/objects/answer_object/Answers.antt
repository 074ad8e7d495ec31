use Rattle.std.proofs.Common.{◌≡◌, [], ◌∷◌, refl, sym, subst}
use Rattle.std.specs.Prelude.{IfOk}
use Rattle.std.specs.String.{string_bytes}
use Rattle.printed_answers.specs.Members.{members_of}
use Rattle.task.specs.Task.{task_of}
use Rattle.printed_answers.specs.JsonText.{object_text}
use Rattle.printed_answers.specs.Objects.{of_answer}
use Rattle.printed_answers.proofs.JsonReported.{reported_as_meant}
use Rattle.printed_answers.proofs.objects.answer_object.Goals as goal

pub object_text-requires : goal.object_text-requires
object_text-requires c = rw (c.text.ensures, c.text-in-Unsolvable.ensures) refl

pub returns-in-Unsolvable : goal.returns-in-Unsolvable
returns-in-Unsolvable c =
    let same : members_of (c.text.result ∷ c.text-in-Unsolvable.result ∷ []) ≡ of_answer (task_of c.args.task.now) c.args.answer.now = rw (c.text.ensures, c.text-in-Unsolvable.ensures, c.in-Unsolvable.is) refl in
    reported_as_meant c.object_text.result (members_of (c.text.result ∷ c.text-in-Unsolvable.result ∷ [])) (of_answer (task_of c.args.task.now) c.args.answer.now) same c.object_text.ensures.text

pub returns-in-Plan : goal.returns-in-Plan
returns-in-Plan c =
    subst (λ answer. IfOk c.plan_object.result (λ text. string_bytes text ≡ object_text (of_answer (task_of c.args.task.now) answer))) (sym c.in-Plan.is) c.plan_object.ensures
