use Rattle.lower_bounds.proofs.LandmarkLowerBound.{dead_fair_ones_report_dead_ends}
use Rattle.lower_bounds.proofs.landmark_laws.dead_fair_landmarks_report_dead_ends.Goals as goal

pub returns : goal.returns
returns c = dead_fair_ones_report_dead_ends
