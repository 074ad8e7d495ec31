use Rattle.std.proofs.Common.{◌∙◌}
use Rattle.grounding_instances.proofs.HashedAtoms.{has-hashed}
use Rattle.grounding_instances.proofs.initial.InitialAtomsValuation.contains.Goals as goal

pub returns : goal.returns
returns c = c.contains.ensures ∙ has-hashed c.args.self.now.atoms.keys c.args.atom.now
