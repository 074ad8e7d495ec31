use Rattle.std.proofs.Common.{arith}
use Rattle.std.proofs.lemmas.List.{length-map}
use Rattle.task.specs.TaskParts.{atom_of}
use Rattle.certificate.specs.CertificateParts.{exchange_in}
use Rattle.certificate.specs.Certificate.{certificate_of}
use Rattle.certificate.proofs.LimitsLemmas.{few_values, few_zones}
use Rattle.certificate.proofs.NumbersLemmas.{few_atoms, few_exchanges, few_parts, limits}
use Rattle.certificate.proofs.cert.Cert.first_state_line.Goals as goal

pub line_count-requires-clause-zones : goal.line_count-requires-clause-zones
line_count-requires-clause-zones c = few_zones (certificate_of c.args.self.now) (limits c.args.self.now)

pub line_count-requires-clause-values : goal.line_count-requires-clause-values
line_count-requires-clause-values c = few_values (certificate_of c.args.self.now) (limits c.args.self.now)

pub overflow_add-result-3 : goal.overflow_add-result-3
overflow_add-result-3 c =
    let cert = c.args.self.now in
    omega (
      arith,
      few_atoms cert,
      few_exchanges cert,
      few_parts cert,
      length-map cert.header.atoms.keys atom_of,
      length-map cert.header.exchanges.items exchange_in,
      c.len.ensures,
      c.len-2.ensures.len,
      c.line_count.ensures,
    )

pub returns-clause-small : goal.returns-clause-small
returns-clause-small c =
    let cert = c.args.self.now in
    omega (
      arith,
      few_atoms cert,
      few_exchanges cert,
      few_parts cert,
      length-map cert.header.atoms.keys atom_of,
      length-map cert.header.exchanges.items exchange_in,
      c.len.ensures,
      c.len-2.ensures.len,
      c.line_count.ensures,
    )
