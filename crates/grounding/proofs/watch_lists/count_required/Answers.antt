use Rattle.std.proofs.Common.{length}
use Rattle.grounding.proofs.LiteralLists.{below-at, below-as_long}
use Rattle.grounding.proofs.watch_lists.count_required.Goals as goal

pub bounds-ranks-atom : goal.bounds-ranks-atom
bounds-ranks-atom c =
    below-as_long _ (length c.args.ranks.now) _ c.loop-literal.invariant (below-at (length c.args.ranks.now) c.args.literals.now c.loop-literal.literal-index _ c.loop-literal-test.true c.requires)

pub bounds-ranks-atom-in-loop-literal : goal.bounds-ranks-atom-in-loop-literal
bounds-ranks-atom-in-loop-literal c =
    below-as_long _ (length c.args.ranks.now) _ c.loop-literal.invariant (below-at (length c.args.ranks.now) c.args.literals.now c.loop-literal.literal-index _ c.loop-literal-test.true c.requires)
