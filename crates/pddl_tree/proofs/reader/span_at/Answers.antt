use Rattle.std.proofs.Common.{◌∙◌, sym, ap}
use Rattle.pddl_tree.proofs.Reported.{past_end}
use Rattle.pddl_tree.proofs.reader.span_at.Goals as goal

pub returns-in-Some-clause-start : goal.returns-in-Some-clause-start
returns-in-Some-clause-start c = c.span-in-Some.ensures.end ∙ sym (ap (λ s. s.start) (past_end c.args.words.now c.args.at c.in-Some.word.now c.if-at-words.false c.in-Some.ensures.value))

pub returns-in-Some-clause-end : goal.returns-in-Some-clause-end
returns-in-Some-clause-end c = c.span-in-Some.ensures.end ∙ sym (ap (λ s. s.end) (past_end c.args.words.now c.args.at c.in-Some.word.now c.if-at-words.false c.in-Some.ensures.value))
