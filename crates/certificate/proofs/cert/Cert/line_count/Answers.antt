use Rattle.std.proofs.Common.{length, sym, ap, ◌∙◌}
use Rattle.std.proofs.lemmas.List.{length-map}
use Rattle.certificate.specs.ListedSets.{marked}
use Rattle.certificate.specs.CertificateParts.{listed_of}
use Rattle.certificate.specs.Certificate.{certificate_of}
use Rattle.certificate.proofs.cert.Cert.line_count.Goals as goal

pub returns : goal.returns
returns c = sym (length-map c.marks.result.now listed_of) ∙ ap length c.marks.ensures.marks ∙ length-map (certificate_of c.args.self.now).lines marked
