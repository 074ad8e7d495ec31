use Rattle.std.proofs.Common.{◌≡◌, drop}
use Rattle.lower_bounds.specs.LandmarkLines.{rise}
use Rattle.landmark_zones.proofs.limits.rise.Given as goal

-- the remaining numbers decide
abbrev pub invariant-loop-number : goal.invariant-loop-number
invariant-loop-number l = rise l.count 0 l.numbers ≡ rise l.count l.least (drop l.number-index l.numbers)
