-- What a text may have of zones and values can be tested.
use Rattle.std.specs.Prelude.{ℕ, ◌≤◌, IsTrue}
use Rattle.lower_bounds.specs.LandmarkLines.{NumberedLandmarks, keep_limits, share_count}
use Rattle.landmarks.specs.Breaking.{AreSorted}

abbrev pub KeptOnesAreSorted : Type 0
KeptOnesAreSorted = (count : ℕ) (l : NumberedLandmarks) → IsTrue (keep_limits count l) → AreSorted l.zones × (share_count l.values ≤ 67108864)
