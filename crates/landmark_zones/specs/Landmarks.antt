-- The code's landmarks, in the model's terms.
use Rattle.std.specs.Prelude.{List, [], ◌∷◌, ◌++◌, map}
use Rattle.lower_bounds.specs.LandmarkFunctions.{Zone}
use Rattle.lower_bounds.specs.LandmarkLines as lines
use Rattle.lower_bounds.specs.LandmarkLines.{NumberedLandmarks}
use Rattle.landmark_zones.specs.declared.values.Share.{Share}
use Rattle.landmark_zones.specs.declared.landmarks.Landmarks.{Landmarks}
use Rattle.landmark_zones.specs.Rows.{rows_of, zones_of}

abbrev pub share_of : Share → lines.Share
share_of s = record { zone = s.zone; weight = s.weight }

abbrev pub landmarks_of : Landmarks → NumberedLandmarks
landmarks_of l = record { zones = zones_of l.zones; values = map (map share_of) (rows_of l.values) }

-- with one more zone, and with one more value
abbrev pub with_zone : NumberedLandmarks → Zone → NumberedLandmarks
with_zone l z = record { zones = l.zones ++ z ∷ []; values = l.values }

abbrev pub with_value : NumberedLandmarks → List lines.Share → NumberedLandmarks
with_value l shares = record { zones = l.zones; values = l.values ++ shares ∷ [] }
