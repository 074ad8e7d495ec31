use Rattle.lower_bounds.proofs.LandmarkLowerBound.{zones_are_landmarks as it}
use Rattle.lower_bounds.proofs.landmark_laws.zones_are_landmarks.Goals as goal

pub returns : goal.returns
returns c = it
