use Rattle.std.proofs.Common.{length, ap, arith}
use Rattle.std.proofs.lemmas.List.{length-map}
use Rattle.task.specs.TaskParts.{atom_of}
use Rattle.certificate.proofs.NumbersLemmas.{few_atoms}
use Rattle.certificate.proofs.cert.Cert.atoms.Goals as goal

pub returns-clause-at_most : goal.returns-clause-at_most
returns-clause-at_most c =
    omega (arith, few_atoms c.args.self.now, ap length c.as_slice.ensures.keys, length-map c.args.self.now.header.atoms.keys atom_of)
