use Rattle.lower_bounds.proofs.KeptLandmarks.{kept_ones_are_over}
use Rattle.lower_bounds.proofs.landmark_laws.kept_landmarks_are_over.Goals as goal

pub returns : goal.returns
returns c = kept_ones_are_over
