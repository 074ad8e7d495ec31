use Rattle.lower_bounds.proofs.LandmarkValues.{landmarks_are_fair_values as it}
use Rattle.lower_bounds.proofs.landmark_laws.landmarks_are_fair_values.Goals as goal

pub returns : goal.returns
returns c = it
