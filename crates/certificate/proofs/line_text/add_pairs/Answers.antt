use Rattle.std.proofs.Common.{◌∙◌, ◌++◌, ap, get_or}
use Rattle.std.proofs.lemmas.List.{get_or_default}
use Rattle.task.specs.Task.{task_of}
use Rattle.task.specs.TaskParts.{object_of}
use Rattle.task.specs.declared.atoms.ObjectId.{ObjectId}
use Rattle.model.specs.PlanWriting.{object_text}
use Rattle.certificate.proofs.LineTextLemmas.{pair_more}
use Rattle.certificate.proofs.line_text.add_pairs.Goals as goal

pub loop-pair-preserved : goal.loop-pair-preserved
loop-pair-preserved c =
    let task = task_of c.args.task.now in
    let pairs = c.args.pairs.now in
    let i = c.loop-pair.pair-index in
    let d : ObjectId × ObjectId = (record { 0 = 0 }, record { 0 = 0 }) in
    let p = get_or pairs i d in
    c.in_ok-add_name-2.ensures ∙ ap (λ xs. xs ++ object_text task (object_of p.1)) c.in_ok-add_name.ensures
    ∙ pair_more task pairs i p c.loop-pair-test.true (get_or_default pairs i d p c.loop-pair-test.true) c.args.text.now.items c.loop-pair.text.items c.loop-pair.invariant
