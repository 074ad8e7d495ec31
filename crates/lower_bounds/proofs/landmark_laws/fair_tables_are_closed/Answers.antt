use Rattle.lower_bounds.proofs.LandmarkLowerBound.{fair_tables_are_closed as it}
use Rattle.lower_bounds.proofs.landmark_laws.fair_tables_are_closed.Goals as goal

pub returns : goal.returns
returns c = it
