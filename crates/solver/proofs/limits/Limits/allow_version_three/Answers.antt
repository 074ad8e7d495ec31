use Rattle.std.proofs.Common.{◌∙◌, sym}
use Rattle.std.proofs.lemmas.Bool.{leb-true}
use Rattle.solver.specs.Versions.{number_of}
use Rattle.solver.proofs.limits.Limits.allow_version_three.Goals as goal

pub returns : goal.returns
returns c = λ allowed. leb-true 3 (number_of c.args.self.now.version) (sym c.allows_three.ensures ∙ allowed)
