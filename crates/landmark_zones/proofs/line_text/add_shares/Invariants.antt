use Rattle.std.proofs.Common.{◌≡◌, ◌++◌, map, take}
use Rattle.std.specs.List.{flat_map}
use Rattle.lower_bounds.specs.LandmarkLines.{share_text}
use Rattle.landmark_zones.specs.Landmarks.{share_of}
use Rattle.landmark_zones.proofs.line_text.add_shares.Given as goal

-- the text has the shares so far
abbrev pub invariant-loop-share : goal.invariant-loop-share
invariant-loop-share l = l.text.items ≡ l.initial.text.items ++ flat_map share_text (map share_of (take l.share-index l.shares))
