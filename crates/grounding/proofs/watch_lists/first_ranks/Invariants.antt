use Rattle.std.proofs.Common.{◌≡◌, length}
use Rattle.grounding.proofs.watch_lists.first_ranks.Given as goal

abbrev pub invariant-loop-atom : goal.invariant-loop-atom
invariant-loop-atom l = length l.ranks.items ≡ l.atom
