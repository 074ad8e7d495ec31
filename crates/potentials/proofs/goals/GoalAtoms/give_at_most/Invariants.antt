use Rattle.std.proofs.Common.{◌≡◌, ◌*◌, List, length, pos, neg_ℤ, ◌≤ℤ◌}
use Rattle.model.specs.NumberedLiterals.{NumberedLiteral}
use Rattle.lower_bounds.specs.PotentialFunctions.{sum_below}
use Rattle.lower_bounds.specs.FairPotentials.{goal_gives}
use Rattle.potentials.specs.Goals.{AreSaid}
use Rattle.potentials.proofs.goals.GoalAtoms.give_at_most.Given as goal

abbrev pub invariant-loop-place : goal.invariant-loop-place
invariant-loop-place l = record {
  so_far : (literals : List NumberedLiteral) → AreSaid literals (length l.weights) l.self → l.total ≡ sum_below l.place (goal_gives literals l.weights);
  least : neg_ℤ (pos (2147483647 * l.place)) ≤ℤ l.total;
  most : l.total ≤ℤ pos (2147483647 * l.place);
}
