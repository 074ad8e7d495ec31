use Rattle.std.proofs.Common.{◌∙◌, sym}
use Rattle.pddl_tree.proofs.Here.{first_here}
use Rattle.pddl_tree.proofs.token.token_at.Goals as goal

pub returns-then-at-words-clause-first : goal.returns-then-at-words-clause-first
returns-then-at-words-clause-first c = c.token_of.ensures ∙ sym (first_here c.args.words.now c.args.at c.index-words-at.result c.if-at-words.true c.index-words-at.is)
