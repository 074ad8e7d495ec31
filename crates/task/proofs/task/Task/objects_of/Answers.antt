use Rattle.std.proofs.Common.{◌∙◌, map, ap, refl, sym}
use Rattle.task.specs.Task.{task_of}
use Rattle.task.specs.TaskParts.{object_of, union_of}
use Rattle.model.specs.Meaning.{is_of}
use Rattle.task.proofs.Lists.{kept_so, kept_not}
use Rattle.task.proofs.task.Task.objects_of.Goals.{then-is_of+in_ok-push, else-is_of}
use Rattle.task.proofs.task.Task.objects_of.Goals as goal

pub loop-number-preserved : goal.loop-number-preserved
loop-number-preserved c =
    let among = is_of (task_of c.args.self.now) (union_of c.args.types.now) in
    let n = c.loop-number.number in let before = c.loop-number.objects.items in
    elim c.if-is_of.branch [
      | then-is_of+in_ok-push w ↦ ap (λ v. map object_of v.items) w.objects-is ∙ ap (map object_of) w.in_ok-push.ensures.items
          ∙ kept_so object_of among n before _ refl (sym c.is_of.ensures ∙ w.if-is_of.true) c.loop-number.invariant
      | else-is_of w ↦ ap (λ v. map object_of v.items) w.objects-is ∙ kept_not object_of among n before (sym c.is_of.ensures ∙ w.if-is_of.false) c.loop-number.invariant
    ]
