use Rattle.std.proofs.Common.{◌≡◌, drop, map}
use Rattle.std.specs.List.{filter_map, list_all}
use Rattle.grounding.specs.Views.{numbered_of}
use Rattle.lower_bounds.specs.LandmarkLines.{landmark_of}
use Rattle.landmark_zones.specs.Landmarks.{landmarks_of, share_of}
use Rattle.landmarks.specs.Fairness.{has_one}
use Rattle.landmarks.proofs.testing.are_of_goal.Given as goal

-- the remaining shares decide
abbrev pub invariant-loop-share : goal.invariant-loop-share
invariant-loop-share l =
    list_all (has_one (map numbered_of l.goal)) (filter_map (landmark_of (landmarks_of l.landmarks).zones) (map share_of l.shares))
    ≡ list_all (has_one (map numbered_of l.goal)) (filter_map (landmark_of (landmarks_of l.landmarks).zones) (map share_of (drop l.share-index l.shares)))
