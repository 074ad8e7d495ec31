use Rattle.std.proofs.Common.{◌≡◌, [], ◌∷◌, refl}
use Rattle.printed_answers.specs.Members.{members_of}
use Rattle.task.specs.Task.{task_of}
use Rattle.formulas.specs.State.{plan_of}
use Rattle.printed_answers.specs.Objects.{of_plan}
use Rattle.printed_answers.proofs.JsonReported.{reported_as_meant}
use Rattle.printed_answers.proofs.objects.plan_object.Goals as goal

pub object_text-requires : goal.object_text-requires
object_text-requires c = rw (c.text.ensures, c.number.ensures, c.text-2.ensures, c.texts.ensures) refl

pub returns : goal.returns
returns c =
    let same : members_of (c.text.result ∷ c.number.result ∷ c.text-2.result ∷ c.texts.result ∷ []) ≡ of_plan (task_of c.args.task.now) (plan_of c.args.plan.now) c.args.cost = rw (c.text.ensures, c.number.ensures, c.text-2.ensures, c.texts.ensures, c.deref.ensures.value, c.in_ok-steps.ensures) refl in
    reported_as_meant c.object_text.result (members_of (c.text.result ∷ c.number.result ∷ c.text-2.result ∷ c.texts.result ∷ [])) (of_plan (task_of c.args.task.now) (plan_of c.args.plan.now) c.args.cost) same c.object_text.ensures.text
