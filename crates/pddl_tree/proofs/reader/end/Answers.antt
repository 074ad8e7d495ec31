use Rattle.pddl_tree.proofs.Names.{◌∙◌, sym, from, stops}
use Rattle.pddl_tree.proofs.Reported.{trailing}
use Rattle.pddl_tree.proofs.reader.end.Goals as goal

pub returns-then-at-words-clause-reported : goal.returns-then-at-words-clause-reported
returns-then-at-words-clause-reported c = trailing c.args.words.now c.args.at c.if-at-words.true ∙ (λ i. stops (sym c.refusal.ensures.number i) (from c.args.words.now (sym c.refusal.ensures.at i)))
