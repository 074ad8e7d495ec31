use Rattle.potentials.proofs.GroundLemmas.{numberable}
use Rattle.potentials.proofs.laws.ground_atoms_are_numberable.Goals as goal

pub returns : goal.returns
returns c = numberable c.args.ground.now
