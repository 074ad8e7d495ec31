use Rattle.cert_checker.proofs.WrittenLemmas.{written_reads_back}
use Rattle.cert_checker.proofs.laws.written_certificates_read_back.Goals as goal

pub returns : goal.returns
returns c = written_reads_back
