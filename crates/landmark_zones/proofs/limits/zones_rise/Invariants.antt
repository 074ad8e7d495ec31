use Rattle.std.proofs.Common.{◌≡◌, drop, map}
use Rattle.lower_bounds.specs.LandmarkLines as lines
use Rattle.lower_bounds.specs.LandmarkLines.{rise}
use Rattle.landmark_zones.specs.Landmarks.{share_of}
use Rattle.landmark_zones.proofs.limits.zones_rise.Given as goal

-- the remaining shares decide
abbrev pub invariant-loop-share : goal.invariant-loop-share
invariant-loop-share l =
    rise l.zone_count 0 (map (λ (s : lines.Share). s.zone) (map share_of l.shares)) ≡ rise l.zone_count l.least (map (λ (s : lines.Share). s.zone) (map share_of (drop l.share-index l.shares)))
