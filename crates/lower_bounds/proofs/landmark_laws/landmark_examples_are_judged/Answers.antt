use Rattle.lower_bounds.proofs.LandmarkExampleProofs.{zones_are_judged}
use Rattle.lower_bounds.proofs.landmark_laws.landmark_examples_are_judged.Goals as goal

pub returns : goal.returns
returns c = zones_are_judged
