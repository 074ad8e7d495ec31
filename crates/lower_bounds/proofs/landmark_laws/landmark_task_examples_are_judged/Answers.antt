use Rattle.lower_bounds.proofs.LandmarkExampleProofs.{tasks_are_judged}
use Rattle.lower_bounds.proofs.landmark_laws.landmark_task_examples_are_judged.Goals as goal

pub returns : goal.returns
returns c = tasks_are_judged
