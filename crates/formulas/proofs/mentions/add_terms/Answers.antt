use Rattle.std.proofs.Common.{◌∙◌, ◌++◌, ap, map, sym}
use Rattle.task.specs.TaskParts.{term_of}
use Rattle.formulas.specs.Mentions.{term_mentions}
use Rattle.formulas.specs.MentionViews.{mention_of}
use Rattle.formulas.proofs.MentionLemmas.{come_all, flat_map_map}
use Rattle.formulas.proofs.mentions.add_terms.Goals as goal

pub returns : goal.returns
returns c =
    let start = map mention_of c.args.found.now.items in
    come_all (λ one. term_mentions (term_of one)) c.args.terms.now c.loop-term.term-index start (map mention_of c.loop-term.found.items) c.loop-term-test.false c.loop-term.invariant
    ∙ ap (λ l. start ++ l) (sym (flat_map_map term_mentions term_of c.args.terms.now))
