use Rattle.lower_bounds.proofs.PotentialLowerBound.{fair_ones_are_lower_bounds}
use Rattle.lower_bounds.proofs.potential_laws.fair_potentials_are_lower_bounds.Goals as goal

pub returns : goal.returns
returns c = fair_ones_are_lower_bounds
