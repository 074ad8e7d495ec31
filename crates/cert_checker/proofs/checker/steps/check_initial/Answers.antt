use Rattle.std.proofs.Common.{◌≡◌}
use Rattle.certificate.specs.Certificate.{store_in}
use Rattle.packed_state.specs.Packed.{bits_of}
use Rattle.model.specs.Meaning.{initial_state, system_of}
use Rattle.cert_checker.specs.PackedListing.{task_at, atoms_at, certificate_at, state_at}
use Rattle.certificate_definitions.specs.Certificates.{lines_of, AreAlikeFor}
use Rattle.cert_checker.proofs.CertCheckerLemmas.{listed_at_none}
use Rattle.cert_checker.proofs.OrderLemmas.{atoms_right, states_right_all, first_initial}
use Rattle.cert_checker.proofs.PackedListingLemmas.{initial_there}
use Rattle.cert_checker.proofs.RefusalsLemmas.{not_listed_at_none}
use Rattle.cert_checker.proofs.checker.steps.check_initial.Goals as goal
use Rattle.cert_checker.proofs.checker.steps.check_initial.Goals.{After-least_cost}

-- it is the initial state
starts : (c : After-least_cost) → state_at c.args.listing.now c.in_ok-initial.initial ≡ initial_state (task_at c.args.listing.now)
starts c =
    let listing = c.args.listing.now in
    initial_there (task_at listing) (atoms_at listing) (certificate_at listing) (store_in listing.cert.now) listing.listed (bits_of c.in_ok-initial.initial) c.in_ok-initial.ensures

pub returns-then-eq-clause-right : goal.returns-then-eq-clause-right
returns-then-eq-clause-right c =
    let listing = c.args.listing.now in
    let task = task_at listing in
    let cert = certificate_at listing in
    listed_at_none (AreAlikeFor task cert) (lines_of task cert) (state_at listing c.in_ok-initial.initial) (system_of task).initial c.least_cost.result c.least_cost.ensures.least c.if-eq.ensures
    (starts (goal.at.returns-then-eq-clause-right c).After-least_cost)

pub returns-clause-wrong : goal.returns-clause-wrong
returns-clause-wrong c =
    λ plan most.
    let listing = c.args.listing.now in
    let task = task_at listing in
    let cert = certificate_at listing in
    not_listed_at_none (AreAlikeFor task cert) (lines_of task cert) (state_at listing c.in_ok-initial.initial) (system_of task).initial c.least_cost.result c.least_cost.ensures.least c.if-eq.ensures
    (starts (goal.at.returns-clause-wrong c).After-least_cost)

pub returns-clause-first : goal.returns-clause-first
returns-clause-first c =
    λ fair landmarks distinct allowed plan most within.
    let listing = c.args.listing.now in
    let task = task_at listing in
    let cert = certificate_at listing in
    first_initial task cert plan most (atoms_right task cert listing.listed.fluent) (states_right_all task cert distinct allowed) within listing.symmetric fair landmarks
