use Rattle.std.proofs.Common.{[], ◌∙◌, ap, map, sym}
use Rattle.formulas.proofs.MentionLemmas.{come_all, flat_map_map}
use Rattle.formulas.specs.MentionViews.{mention_of}
use Rattle.task.specs.TaskParts.{object_of}
use Rattle.symmetries.specs.Named.{named_by}
use Rattle.symmetries.proofs.NamedLists.{named_next}
use Rattle.symmetries.proofs.named.objects_named.Goals as goal

pub loop-mention-init : goal.loop-mention-init
loop-mention-init c = ap (map object_of) c.new-found.ensures.items

pub loop-mention-preserved : goal.loop-mention-preserved
loop-mention-preserved c =
    named_next c.args.mentions.now c.loop-mention.mention-index _ c.loop-mention.found.items c.add_named.new.found.items
    c.loop-mention-test.true c.loop-mention.invariant c.in_ok-add_named.ensures

pub returns : goal.returns
returns c =
    come_all (λ one. named_by (mention_of one)) c.args.mentions.now c.loop-mention.mention-index [] (map object_of c.loop-mention.found.items) c.loop-mention-test.false c.loop-mention.invariant
    ∙ sym (flat_map_map named_by mention_of c.args.mentions.now)
