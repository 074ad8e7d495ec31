use Rattle.search_spaces.proofs.TaskLemmas.{classes_reach_alike}
use Rattle.search_spaces.proofs.laws.classes_reach_goals_alike.Goals as goal

pub returns : goal.returns
returns c = classes_reach_alike
