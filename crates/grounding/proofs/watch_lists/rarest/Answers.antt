use Rattle.std.proofs.Common.{length}
use Rattle.grounding.proofs.LiteralLists.{below-at}
use Rattle.grounding.proofs.WatchLemmas.{watchable-next}
use Rattle.grounding.proofs.watch_lists.rarest.Goals as goal

pub rarer-watched-requires-clause-within : goal.rarer-watched-requires-clause-within
rarer-watched-requires-clause-within c = below-at (length c.args.ranks.now) c.args.literals.now c.loop-literal.literal-index _ c.loop-literal-test.true c.requires

pub loop-literal-preserved : goal.loop-literal-preserved
loop-literal-preserved c =
    watchable-next (length c.args.ranks.now) c.args.literals.now c.loop-literal.literal-index _ c.loop-literal.watched c.rarer-watched.result c.loop-literal-test.true
    (below-at (length c.args.ranks.now) c.args.literals.now c.loop-literal.literal-index _ c.loop-literal-test.true c.requires) c.loop-literal.invariant c.rarer-watched.ensures
