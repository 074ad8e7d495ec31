use Rattle.std.proofs.Common.{sym, ◌∙◌, refl, arith}
use Rattle.certificate_reader.specs.Lines.{claim_of}
use Rattle.cert_checker.specs.PackedListing.{task_at, certificate_at, state_at}
use Rattle.cert_checker.specs.declared.refusal.RefusalCode.TheVariants.{GoalOpen}
use Rattle.certificate_definitions.specs.CertificateRefusals.{goal_open, state_line}
use Rattle.cert_checker.proofs.OrderLemmas.{first_in_line}
use Rattle.cert_checker.proofs.FirstLemmas.{reported_first}
use Rattle.cert_checker.proofs.RefusalsLemmas.{reported, wrong_goal, not_allowed}
use Rattle.cert_checker.proofs.checker.steps.check_goal.Goals as goal

pub returns-then-not-allows-clause-wrong : goal.returns-then-not-allows-clause-wrong
returns-then-not-allows-clause-wrong c =
    let listing = c.args.listing.now in
    let cert = certificate_at listing in
    reported (task_at listing) cert c.state_line.result GoalOpen (state_line cert c.args.place) c.state_line.ensures
    (wrong_goal (task_at listing) cert c.args.place (state_at listing c.args.state.now) c.args.cost c.requires.listed (sym c.meets_goal.ensures ∙ c.if-meets_goal.true)
    (not_allowed (claim_of c.claim.result) cert.claim c.args.cost c.allows.result c.claim.ensures c.allows.ensures c.if-not-allows.true))

pub returns-then-not-allows-clause-first : goal.returns-then-not-allows-clause-first
returns-then-not-allows-clause-first c =
    λ plan most right.
    let listing = c.args.listing.now in
    let cert = certificate_at listing in
    reported_first (task_at listing) cert plan most c.state_line.result GoalOpen (state_line cert c.args.place) c.state_line.ensures
    (first_in_line (task_at listing) cert plan most c.args.place goal_open right refl (λ r stage rank wrong. omega arith)) tt
