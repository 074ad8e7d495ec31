use Rattle.std.proofs.Common.{◌≡◌, drop, map}
use Rattle.std.specs.List.{list_all}
use Rattle.lower_bounds.specs.LandmarkLines.{is_share}
use Rattle.landmark_zones.specs.Landmarks.{share_of}
use Rattle.landmark_zones.proofs.limits.are_shares.Given as goal

-- the remaining shares decide
abbrev pub invariant-loop-share : goal.invariant-loop-share
invariant-loop-share l = list_all is_share (map share_of l.shares) ≡ list_all is_share (map share_of (drop l.share-index l.shares))
