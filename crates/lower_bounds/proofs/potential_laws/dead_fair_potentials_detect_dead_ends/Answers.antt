use Rattle.lower_bounds.proofs.PotentialLowerBound.{dead_fair_ones_detect_dead_ends}
use Rattle.lower_bounds.proofs.potential_laws.dead_fair_potentials_detect_dead_ends.Goals as goal

pub returns : goal.returns
returns c = dead_fair_ones_detect_dead_ends
