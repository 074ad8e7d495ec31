use Rattle.certificate_definitions.proofs.CertificateExampleProofs.{are_judged}
use Rattle.certificate_definitions.proofs.ExchangeExampleProofs.{are_exchanges_judged}
use Rattle.cert_checker.proofs.laws.examples_are_judged.Goals as goal

pub returns-clause-judged : goal.returns-clause-judged
returns-clause-judged c = are_judged

pub returns-clause-exchanges : goal.returns-clause-exchanges
returns-clause-exchanges c = are_exchanges_judged
