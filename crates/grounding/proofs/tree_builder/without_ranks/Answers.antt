use Rattle.std.proofs.Common.{◌≡◌, ◌∙◌, ◌<◌, ◌++◌, ◌∷◌, [], ℕ, get_or, length, map, sym, arith}
use Rattle.std.proofs.lemmas.List.{get_or-map, length-map, take_more}
use Rattle.grounding.proofs.tree_builder.without_ranks.Goals as goal

pub loop-pair-preserved : goal.loop-pair-preserved
loop-pair-preserved c =
    let number : ℕ × ℕ → ℕ = λ p. p.1 in
    let ranked = c.args.ranked.now in
    let i = c.loop-pair.pair-index in
    let below : i < length (map number ranked) = omega (arith, c.loop-pair-test.true, length-map ranked number) in
    let pushed : c.push.new.self.items ≡ c.loop-pair.numbers.items ++ number (get_or ranked i (0, 0)) ∷ [] = c.in_ok-push.ensures.items in
    pushed ∙ (λ j. c.loop-pair.invariant j ++ sym (get_or-map number ranked i (0, 0) 0 c.loop-pair-test.true) j ∷ []) ∙ sym (take_more (map number ranked) i 0 below)
