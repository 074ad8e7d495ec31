use Rattle.std.proofs.Common.{◌≡◌, drop}
use Rattle.std.specs.List.{list_all}
use Rattle.lower_bounds.specs.LandmarkLines.{is_zone}
use Rattle.landmark_zones.specs.Landmarks.{landmarks_of}
use Rattle.landmark_zones.proofs.landmarks.Landmarks.are_zones.Given as goal

-- the remaining zones decide
abbrev pub invariant-loop-number : goal.invariant-loop-number
invariant-loop-number l = list_all (is_zone l.atom_count) (landmarks_of l.self).zones ≡ list_all (is_zone l.atom_count) (drop l.number (landmarks_of l.self).zones)
