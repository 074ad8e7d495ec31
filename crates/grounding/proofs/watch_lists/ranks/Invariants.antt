use Rattle.std.proofs.Common.{◌≡◌, length}
use Rattle.grounding.proofs.watch_lists.ranks.Given as goal

abbrev pub invariant-loop-condition : goal.invariant-loop-condition
invariant-loop-condition l = length l.ranks.items ≡ l.width
