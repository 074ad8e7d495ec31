use Rattle.std.proofs.Common.{◌∙◌}
use Rattle.symmetries.proofs.symmetry_test.SymmetryTest.is_named.Goals as goal

pub returns : goal.returns
returns c = c.contains.ensures ∙ c.args.self.now.are_named c.args.object.0
