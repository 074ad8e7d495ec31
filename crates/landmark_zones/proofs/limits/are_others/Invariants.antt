use Rattle.std.proofs.Common.{◌≡◌, drop}
use Rattle.landmark_zones.specs.Limits.{are_others}
use Rattle.landmark_zones.proofs.limits.are_others.Given as goal

-- the remaining numbers decide
abbrev pub invariant-loop-number : goal.invariant-loop-number
invariant-loop-number l = are_others l.atoms l.numbers ≡ are_others l.atoms (drop l.number-index l.numbers)
