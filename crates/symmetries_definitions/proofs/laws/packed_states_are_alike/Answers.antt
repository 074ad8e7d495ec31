use Rattle.symmetries_definitions.proofs.PackedOrbits.{packed_states_are_alike}
use Rattle.symmetries_definitions.proofs.laws.packed_states_are_alike.Goals as goal

pub returns : goal.returns
returns c = packed_states_are_alike
