use Rattle.certificate_reader.proofs.OneText.{one_certificate}
use Rattle.certificate_reader.proofs.laws.texts_are_certificates_one_for_one.Goals as goal

pub returns-clause-one_certificate : goal.returns-clause-one_certificate
returns-clause-one_certificate c = one_certificate
