use Rattle.std.proofs.Common.{◌≡◌, length}
use Rattle.grounding.proofs.watch_lists.count_required.Given as goal

abbrev pub invariant-loop-literal : goal.invariant-loop-literal
invariant-loop-literal l = length l.ranks ≡ length l.initial.ranks
