use Rattle.certificate.specs.Certificate.{store_in}
use Rattle.certificate_definitions.specs.Certificates.{AreAlikeFor}
use Rattle.cert_checker.specs.PackedListing.{task_at, atoms_at, certificate_at, state_at}
use Rattle.cert_checker.proofs.CertCheckerLemmas.{lines_within}
use Rattle.cert_checker.proofs.ClassLemmas.{cost_there}
use Rattle.cert_checker.proofs.checker.packed.PackedListing.least_cost.Goals as goal

pub cost_at-requires : goal.cost_at-requires
cost_at-requires c =
    let listing = c.args.self.now in
    let cheapest = c.in-Some.ensures.place in
    lines_within (task_at listing) (certificate_at listing) c.in-Some.place cheapest.line cheapest.listed

pub returns-in-Some-clause-least : goal.returns-in-Some-clause-least
returns-in-Some-clause-least c =
    let listing = c.args.self.now in
    let task = task_at listing in
    let cert = certificate_at listing in
    cost_there task (atoms_at listing) cert (store_in listing.cert.now) listing.listed (AreAlikeFor task cert) (state_at listing c.args.state.now) c.in-Some.place c.cost_at.result c.in-Some.ensures.place c.cost_at.ensures

pub returns-in-None-clause-least : goal.returns-in-None-clause-least
returns-in-None-clause-least c = c.in-None.ensures.place
