use Rattle.std.proofs.Common.{◌∙◌, ◌++◌, ◌∷◌, [], map, ap}
use Rattle.std.proofs.lemmas.List.{map-append}
use Rattle.certificate.specs.CertificateParts.{exchange_in}
use Rattle.cert_checker.proofs.exchanges.take_exchange.Goals as goal

pub returns : goal.returns
returns c =
    let old = c.args.exchanges.now.items in
    ap (map exchange_in) c.in_ok-push.ensures.items ∙ map-append exchange_in old (c.in_ok-exchange.exchange ∷ [])
    ∙ ap (λ e. map exchange_in old ++ e ∷ []) c.in_ok-exchange.ensures
