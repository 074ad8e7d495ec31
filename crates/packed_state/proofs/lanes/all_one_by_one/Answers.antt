use Rattle.std.proofs.Common.{refl, true≢false, sym, ◌∙◌, arith}
use Rattle.packed_state.proofs.lanes.all_one_by_one.Goals as goal

pub returns-then-not-of_words : goal.returns-then-not-of_words
returns-then-not-of_words g c = (
  λ is. absurd (cc),
  λ all. absurd (true≢false (sym (c.of_words.ensures.1 (all c.words.place (omega arith))) ∙ c.if-not-of_words.true)),
)

pub returns : goal.returns
returns g c = (λ _ k within. c.words.invariant k (omega arith), λ _. refl)
