use Rattle.std.proofs.Common.{length, arith}
use Rattle.std.proofs.lemmas.Bool.{leb-true}
use Rattle.certificate.specs.Certificate.{certificate_of}
use Rattle.certificate_definitions.specs.CertificateText.{most_states}
use Rattle.certificate.proofs.LimitsLemmas.{limits_of}
use Rattle.cert_checker.proofs.checker.steps.state_line.Goals as goal

pub overflow_add-result : goal.overflow_add-result
overflow_add-result c =
    let cert = certificate_of c.args.cert.now in
    omega (arith, c.requires, leb-true (length cert.lines) most_states (limits_of cert c.args.cert.now.within_limits).few_states, c.first_state_line.ensures.small)
