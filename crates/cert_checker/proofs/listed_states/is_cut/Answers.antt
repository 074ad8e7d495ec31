use Rattle.std.proofs.Common.{ap, refl}
use Rattle.certificate_reader.specs.Lines.{basis_of, mark_of}
use Rattle.cert_checker.proofs.listed_states.is_cut.Goals as goal

pub returns-in-Cut : goal.returns-in-Cut
returns-in-Cut c = (λ true. (basis_of c.in-Cut.by, c.in-Cut.rest, ap mark_of c.in-Cut.is), λ cut. refl)
