use Rattle.symmetries_definitions.proofs.PackedOrbits.{goals_are_reached_alike}
use Rattle.symmetries_definitions.proofs.laws.goals_are_reached_alike.Goals as goal

pub returns : goal.returns
returns c = goals_are_reached_alike
