use Rattle.std.proofs.Common.{◌≡◌, map, take}
use Rattle.certificate.specs.CertificateParts.{exchange_in}
use Rattle.symmetries.specs.Exchange.{exchange_of}
use Rattle.search_spaces.proofs.exchanges.written_exchanges.Given as goal

-- the pairs of those so far
abbrev pub invariant-loop-exchange : goal.invariant-loop-exchange
invariant-loop-exchange l = map exchange_in l.written.items ≡ map exchange_of (take l.exchange-index l.exchanges)
