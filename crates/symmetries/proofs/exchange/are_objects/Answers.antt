use Rattle.std.proofs.Common.{◌∙◌, ◌<◌, ◌≤◌, true, false, get_or, sym, subst}
use Rattle.std.specs.Prelude.{length}
use Rattle.std.proofs.lemmas.Bool.{lt-ltb, le-ltb}
use Rattle.task.specs.declared.atoms.ObjectId.{ObjectId}
use Rattle.task.specs.Task.{task_of}
use Rattle.task.specs.TaskParts.{object_of}
use Rattle.model.proofs.Tests.{passes_map, passes_more_index, passes_not_index, passes_whole}
use Rattle.symmetries.specs.ObjectPairs.{is_object}
use Rattle.symmetries.proofs.exchange.are_objects.Goals as goal

pub loop-object-preserved : goal.loop-object-preserved
loop-object-preserved c =
    let t = task_of c.args.task.now in
    let objects = c.args.objects.now in
    let d : ObjectId = record { 0 = 0 } in
    passes_more_index (λ o. is_object t (object_of o)) objects c.loop-object.object-index d c.loop-object-test.true c.loop-object.invariant
    (lt-ltb (object_of (get_or objects c.loop-object.object-index d)) (length t.objects)
    (subst (λ n. object_of (get_or objects c.loop-object.object-index d) < n) c.object_count.ensures c.if-object-object_count.false))

pub returns-then-object-object_count : goal.returns-then-object-object_count
returns-then-object-object_count c =
    let t = task_of c.args.task.now in
    let objects = c.args.objects.now in
    let d : ObjectId = record { 0 = 0 } in
    passes_not_index (λ o. is_object t (object_of o)) objects c.loop-object.object-index d c.loop-object-test.true
    (le-ltb (object_of (get_or objects c.loop-object.object-index d)) (length t.objects)
    (subst (λ n. n ≤ object_of (get_or objects c.loop-object.object-index d)) c.object_count.ensures c.if-object-object_count.true))
    ∙ sym (passes_map (is_object t) object_of objects)

pub returns : goal.returns
returns c =
    let t = task_of c.args.task.now in
    passes_whole (λ o. is_object t (object_of o)) c.args.objects.now c.loop-object.object-index c.loop-object-test.false c.loop-object.invariant
    ∙ sym (passes_map (is_object t) object_of c.args.objects.now)
