use Rattle.std.proofs.Common.{◌∙◌, refl, sym, arith}
use Rattle.certificate_reader.specs.Lines.{basis_of}
use Rattle.cert_checker.specs.PackedListing.{task_at, certificate_at, state_at}
use Rattle.cert_checker.specs.declared.refusal.RefusalCode.TheVariants.{NotDead}
use Rattle.certificate_definitions.specs.CertificateRefusals.{not_dead, state_line}
use Rattle.cert_checker.proofs.CertCheckerLemmas.{dead_has_basis}
use Rattle.cert_checker.proofs.EvidenceLemmas.{basis_there}
use Rattle.cert_checker.proofs.OrderLemmas.{first_in_line}
use Rattle.cert_checker.proofs.FirstLemmas.{reported_first}
use Rattle.cert_checker.proofs.RefusalsLemmas.{reported, wrong_dead}
use Rattle.cert_checker.proofs.checker.steps.check_dead.Goals as goal

-- the line rests on a value that there is
pub shows_dead_end-requires-clause-basis : goal.shows_dead_end-requires-clause-basis
shows_dead_end-requires-clause-basis c =
    let listing = c.args.listing.now in
    basis_there (certificate_at listing) listing.evidence listing.valued.landmarks (basis_of c.args.line.by)
    (dead_has_basis (task_at listing) (certificate_at listing) c.args.line.place (state_at listing c.args.state.now) c.requires.listed.0 (basis_of c.args.line.by) listing.cert.now.within_limits c.requires.listed.1)

pub returns-then-shows_dead_end-clause-right : goal.returns-then-shows_dead_end-clause-right
returns-then-shows_dead_end-clause-right c = sym c.shows_dead_end.ensures.dead ∙ c.if-shows_dead_end.true

pub returns-else-shows_dead_end-clause-wrong : goal.returns-else-shows_dead_end-clause-wrong
returns-else-shows_dead_end-clause-wrong c =
    let listing = c.args.listing.now in
    let cert = certificate_at listing in
    reported (task_at listing) cert c.state_line.result NotDead (state_line cert c.args.line.place) c.state_line.ensures
    (wrong_dead (task_at listing) cert c.args.line.place (state_at listing c.args.state.now) c.requires.listed.0 (basis_of c.args.line.by) c.requires.listed.1 (sym c.shows_dead_end.ensures.dead ∙ c.if-shows_dead_end.false))

pub returns-else-shows_dead_end-clause-first : goal.returns-else-shows_dead_end-clause-first
returns-else-shows_dead_end-clause-first c =
    λ plan most right.
    let listing = c.args.listing.now in
    let cert = certificate_at listing in
    reported_first (task_at listing) cert plan most c.state_line.result NotDead (state_line cert c.args.line.place) c.state_line.ensures
    (first_in_line (task_at listing) cert plan most c.args.line.place not_dead right refl (λ r stage rank wrong. omega arith)) tt
