use Rattle.std.proofs.Common.{◌≡◌, drop, length}
use Rattle.std.specs.List.{list_all}
use Rattle.lower_bounds.specs.LandmarkLines.{is_value}
use Rattle.landmark_zones.specs.Landmarks.{landmarks_of}
use Rattle.landmark_zones.proofs.landmarks.Landmarks.are_values.Given as goal

-- the remaining values decide
abbrev pub invariant-loop-number : goal.invariant-loop-number
invariant-loop-number l =
    list_all (is_value (length (landmarks_of l.self).zones)) (landmarks_of l.self).values
    ≡ list_all (is_value (length (landmarks_of l.self).zones)) (drop l.number (landmarks_of l.self).values)
