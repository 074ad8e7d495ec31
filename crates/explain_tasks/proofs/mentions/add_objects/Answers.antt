use Rattle.std.proofs.Common.{◌∙◌, ◌++◌, ap, map, sym}
use Rattle.std.proofs.lemmas.List.{take_all}
use Rattle.task.specs.TaskParts.{object_of}
use Rattle.formulas.specs.Mentions.{named}
use Rattle.formulas.specs.MentionViews.{mention_of}
use Rattle.formulas.proofs.MentionLemmas.{map_map}
use Rattle.explain_tasks.proofs.mentions.add_objects.Goals as goal

pub returns : goal.returns
returns c =
    let start = map mention_of c.args.found.now.items in
    c.loop-object.invariant
    ∙ ap (λ l. start ++ l) (ap (map (λ o. named o.0)) (take_all c.loop-object.object-index c.args.objects.now c.loop-object-test.false) ∙ sym (map_map named object_of c.args.objects.now))
