use Rattle.std.proofs.Common.{◌-◌, length}
use Rattle.search.proofs.OpenList.{IsWayBack}
use Rattle.search.proofs.nodes.steps_to.Given as goal

abbrev pub invariant-loop-at : goal.invariant-loop-at
invariant-loop-at l = IsWayBack l.nodes l.initial.at.0 l.at.0 l.steps.items

abbrev pub decreases-loop-at : goal.decreases-loop-at
decreases-loop-at l = length l.nodes - length l.steps.items
