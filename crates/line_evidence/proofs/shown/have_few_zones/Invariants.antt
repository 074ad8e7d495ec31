use Rattle.std.proofs.Common.{◌≡◌, drop}
use Rattle.std.specs.List.{list_all}
use Rattle.landmark_zones.specs.Landmarks.{landmarks_of}
use Rattle.line_evidence.specs.Shown.{has_few_zones}
use Rattle.line_evidence.proofs.shown.have_few_zones.Given as goal

-- the remaining values decide
abbrev pub invariant-loop-number : goal.invariant-loop-number
invariant-loop-number l = list_all has_few_zones (landmarks_of l.landmarks).values ≡ list_all has_few_zones (drop l.number (landmarks_of l.landmarks).values)
