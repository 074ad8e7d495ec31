use Rattle.std.proofs.Common.{◌∙◌, ap, sym, map, ◌++◌}
use Rattle.task.specs.TaskParts.{effect_of}
use Rattle.formulas.specs.Mentions.{effect_mentions}
use Rattle.formulas.specs.MentionViews.{mention_of}
use Rattle.formulas.proofs.MentionLemmas.{come_all, mentions_by_both}
use Rattle.formulas.proofs.mentions.+add_effect.Goals as goal

pub returns-after-loop-part : goal.returns-after-loop-part
returns-after-loop-part t c =
    let items = c.deref-part-items.result.now in
    let start = map mention_of c.args.found.now.items in
    come_all (λ part. effect_mentions (effect_of part)) items c.loop-part.part-index start (map mention_of c.loop-part.found.items) c.loop-part-test.false c.loop-part.invariant
    ∙ ap (λ l. start ++ l) (sym (mentions_by_both c.args.effect.now c.in-And.parts items c.in-And.is c.deref-part-items.ensures.value))
