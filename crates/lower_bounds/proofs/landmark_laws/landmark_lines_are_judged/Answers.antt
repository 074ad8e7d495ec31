use Rattle.lower_bounds.proofs.KeptLandmarks.{lines_are_judged}
use Rattle.lower_bounds.proofs.landmark_laws.landmark_lines_are_judged.Goals as goal

pub returns : goal.returns
returns c = lines_are_judged
