use Rattle.std.proofs.Common.{length, map, ap, ◌∙◌, arith}
use Rattle.std.proofs.lemmas.List.{length-map}
use Rattle.certificate.specs.ListedSets.{marked}
use Rattle.certificate.specs.Certificate.{certificate_of}
use Rattle.certificate.specs.CertificateParts.{listed_of}
use Rattle.certificate.proofs.NumbersLemmas.{few_lines, limits, marks_are}
use Rattle.certificate.proofs.cert.Cert.marks.Goals as goal

pub returns-clause-marks : goal.returns-clause-marks
returns-clause-marks c = ap (map listed_of) c.as_slice.ensures.value ∙ marks_are c.args.self.now

pub returns-clause-at_most : goal.returns-clause-at_most
returns-clause-at_most c =
    let cert = c.args.self.now in
    omega (
      arith,
      few_lines cert,
      ap length c.as_slice.ensures.value,
      length-map cert.states.marks.items listed_of,
      ap length (marks_are cert),
      length-map (certificate_of cert).lines marked,
    )

pub returns-clause-bases : goal.returns-clause-bases
returns-clause-bases c = (limits c.args.self.now).bases
