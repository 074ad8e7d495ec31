use Rattle.lower_bounds.proofs.LandmarkLowerBound.{fair_ones_are_lower_bounds}
use Rattle.lower_bounds.proofs.landmark_laws.fair_landmarks_are_lower_bounds.Goals as goal

pub returns : goal.returns
returns c = fair_ones_are_lower_bounds
