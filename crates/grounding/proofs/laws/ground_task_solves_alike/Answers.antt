use Rattle.model.proofs.GroundTaskLemmas.{ground_task_solves_alike}
use Rattle.grounding.proofs.laws.ground_task_solves_alike.Goals as goal

pub returns : goal.returns
returns c = ground_task_solves_alike
