use Rattle.certificate_definitions.proofs.CertificateTextExampleProofs.{texts_judged}
use Rattle.certificate_reader.proofs.laws.text_examples_are_judged.Goals as goal

pub returns : goal.returns
returns c = texts_judged
