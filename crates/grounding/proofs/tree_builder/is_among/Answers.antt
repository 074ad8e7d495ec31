use Rattle.grounding.proofs.TreeLemmas.{among}
use Rattle.grounding.proofs.tree_builder.is_among.Goals as goal

pub returns-then-are_same : goal.returns-then-are_same
returns-then-are_same c =
    λ _. among c.args.literals.now c.loop-other.other-index _ c.args.literal.now c.loop-other-test.true (c.are_same.ensures.atom c.if-are_same.true) (c.are_same.ensures.value c.if-are_same.true)
