use Rattle.std.proofs.Common.{length, get_or, ap, eqb-true, eq-eqb}
use Rattle.packed_state.proofs.LaneLemmas.{words_same}
use Rattle.packed_state.proofs.words.are_same.Goals as goal

pub returns-then-words-others : goal.returns-then-words-others
returns-then-words-others c = (
  λ is. words_same c.args.words.now c.args.others.now c.if-words-others.true (c.all.ensures.0 is),
  λ same. c.all.ensures.1 (λ place _. ap (λ words. get_or words place 0) same),
)

pub returns-else-words-others : goal.returns-else-words-others
returns-else-words-others c = (
  λ is. absurd (c.if-words-others.false (eqb-true (length c.args.words.now) (length c.args.others.now) is)),
  λ same. eq-eqb (length c.args.words.now) (length c.args.others.now) (ap length same),
)
