use Rattle.std.proofs.Common.{◌≡◌, map, take}
use Rattle.grounding.proofs.tree_builder.TreeBuilder.ranked.Given as goal

abbrev pub invariant-loop-number : goal.invariant-loop-number
invariant-loop-number l = map (λ p. p.1) l.ranked.items ≡ take l.number-index l.numbers
