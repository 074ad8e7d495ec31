use Rattle.std.proofs.Common.{◌≡◌, map, take}
use Rattle.grounding.proofs.tree_builder.without_ranks.Given as goal

abbrev pub invariant-loop-pair : goal.invariant-loop-pair
invariant-loop-pair l = l.numbers.items ≡ take l.pair-index (map (λ p. p.1) l.ranked)
