use Rattle.std.proofs.Common.{◌∙◌, ap, sym, map, ◌++◌}
use Rattle.task.specs.TaskParts.{formula_of}
use Rattle.formulas.specs.Mentions.{mentions}
use Rattle.formulas.specs.MentionViews.{mention_of}
use Rattle.formulas.proofs.MentionLemmas.{come_all, mentions_by_and, mentions_by_or}
use Rattle.formulas.proofs.mentions.+add_formula_mentions.Goals as goal

pub returns-after-loop-part : goal.returns-after-loop-part
returns-after-loop-part t c =
    let items = c.deref-part-items.result.now in
    let start = map mention_of c.args.found.now.items in
    come_all (λ part. mentions (formula_of part)) items c.loop-part.part-index start (map mention_of c.loop-part.found.items) c.loop-part-test.false c.loop-part.invariant
    ∙ ap (λ l. start ++ l) (sym (mentions_by_and c.args.formula.now c.in-And.parts items c.in-And.is c.deref-part-items.ensures.value))

pub returns-after-loop-choice : goal.returns-after-loop-choice
returns-after-loop-choice t c =
    let items = c.deref-choice-items.result.now in
    let start = map mention_of c.args.found.now.items in
    come_all (λ part. mentions (formula_of part)) items c.loop-choice.choice-index start (map mention_of c.loop-choice.found.items) c.loop-choice-test.false c.loop-choice.invariant
    ∙ ap (λ l. start ++ l) (sym (mentions_by_or c.args.formula.now c.in-Or.choices items c.in-Or.is c.deref-choice-items.ensures.value))
