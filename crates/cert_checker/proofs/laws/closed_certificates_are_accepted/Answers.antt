use Rattle.cert_checker.proofs.WrittenLemmas.{closed_is_accepted}
use Rattle.cert_checker.proofs.laws.closed_certificates_are_accepted.Goals as goal

pub returns : goal.returns
returns c = closed_is_accepted
