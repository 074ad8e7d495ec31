use Rattle.std.proofs.Common.{◌≡◌, drop, map}
use Rattle.certificate_definitions.specs.Certificates.{are_exchanges}
use Rattle.certificate_reader.specs.Lines.{version_of}
use Rattle.certificate.specs.CertificateParts.{exchange_in}
use Rattle.certificate.proofs.limits.are_exchanges.Given as goal

-- the remaining exchanges decide
abbrev pub invariant-loop-exchange : goal.invariant-loop-exchange
invariant-loop-exchange l =
    are_exchanges (version_of l.version) (map exchange_in l.exchanges) ≡ are_exchanges (version_of l.version) (map exchange_in (drop l.exchange-index l.exchanges))
