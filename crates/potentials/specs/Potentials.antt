-- Potentials of the code, as potential functions.
use Rattle.potentials.specs.declared.potentials.Potentials.{Potentials}
use Rattle.lower_bounds.specs.PotentialFunctions.{PotentialFunction}

abbrev pub potentials_of : Potentials → PotentialFunction
potentials_of p = record { constant = p.constant; weights = p.weights.items }
