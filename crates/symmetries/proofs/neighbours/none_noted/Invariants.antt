use Rattle.std.proofs.Common.{◌≡◌, length}
use Rattle.symmetries.proofs.neighbours.none_noted.Given as goal

-- as many are there as were pushed
abbrev pub invariant-loop : goal.invariant-loop
invariant-loop l = length l.noted.items ≡ l.counter
