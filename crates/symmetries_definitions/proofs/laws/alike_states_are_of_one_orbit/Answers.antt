use Rattle.symmetries_definitions.proofs.TaskOrbits.{alike_states_are_of_one_orbit}
use Rattle.symmetries_definitions.proofs.laws.alike_states_are_of_one_orbit.Goals as goal

pub returns : goal.returns
returns c = alike_states_are_of_one_orbit
