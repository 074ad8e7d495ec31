use Rattle.symmetries_definitions.proofs.TaskOrbits.{states_alone}
use Rattle.symmetries_definitions.proofs.laws.states_alone_stand_for_themselves.Goals as goal

pub returns : goal.returns
returns c = states_alone
