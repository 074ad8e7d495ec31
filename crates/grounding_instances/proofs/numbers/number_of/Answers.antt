use Rattle.std.proofs.Common.{◌∙◌, sym}
use Rattle.grounding_instances.proofs.NumberedParts.{position-alike}
use Rattle.grounding_instances.proofs.numbers.number_of.Goals as goal

pub returns-in-Some : goal.returns-in-Some
returns-in-Some c = sym c.in-Some.is ∙ c.get_index_of.ensures.index ∙ position-alike c.args.atom.now c.args.atoms.now.keys

pub returns-in-None : goal.returns-in-None
returns-in-None c = sym c.in-None.is ∙ c.get_index_of.ensures.index ∙ position-alike c.args.atom.now c.args.atoms.now.keys
