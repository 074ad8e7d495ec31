use Rattle.grounding.specs.WatchLists.{AreWatched}
use Rattle.grounding.proofs.watch_lists.WatchLists.new.Given as goal

abbrev pub invariant-loop-number : goal.invariant-loop-number
invariant-loop-number l = AreWatched l.width l.conditions l.number l.lists
