use Rattle.symmetries_definitions.proofs.OrbitLemmas.{orbits_keep_steps}
use Rattle.symmetries_definitions.proofs.laws.orbits_keep_steps.Goals as goal

pub returns : goal.returns
returns g c = orbits_keep_steps
