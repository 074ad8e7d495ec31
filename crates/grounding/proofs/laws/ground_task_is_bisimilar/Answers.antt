use Rattle.model.proofs.GroundTaskLemmas.{ground_task_is_bisimilar}
use Rattle.grounding.proofs.laws.ground_task_is_bisimilar.Goals as goal

pub returns : goal.returns
returns c = ground_task_is_bisimilar
