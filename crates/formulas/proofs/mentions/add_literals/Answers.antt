use Rattle.std.proofs.Common.{◌∙◌, ◌++◌, ap, map, sym}
use Rattle.task.specs.TaskParts.{effect_literal_of}
use Rattle.formulas.specs.Mentions.{literal_mentions}
use Rattle.formulas.specs.MentionViews.{mention_of}
use Rattle.formulas.proofs.MentionLemmas.{come_all, flat_map_map}
use Rattle.formulas.proofs.mentions.add_literals.Goals as goal

pub returns : goal.returns
returns c =
    let start = map mention_of c.args.found.now.items in
    come_all (λ one. literal_mentions (effect_literal_of one)) c.args.literals.now c.loop-literal.literal-index start (map mention_of c.loop-literal.found.items) c.loop-literal-test.false c.loop-literal.invariant
    ∙ ap (λ l. start ++ l) (sym (flat_map_map literal_mentions effect_literal_of c.args.literals.now))
