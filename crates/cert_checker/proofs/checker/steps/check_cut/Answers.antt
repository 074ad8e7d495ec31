use Rattle.std.proofs.Common.{◌≡◌, ◌∙◌, ◌+◌, ◌<◌, ◌≤◌, ℕ, Bool, false, true≢false, inl, inr, refl, sym, arith}
use Rattle.std.specs.Prelude.{◌↔◌, IsTrue}
use Rattle.std.proofs.lemmas.Bool.{cases_lt}
use Rattle.certificate_definitions.specs.Certificates.{value_by}
use Rattle.certificate_reader.specs.Lines.{basis_of, claim_of}
use Rattle.cert_checker.specs.PackedListing.{task_at, certificate_at, state_at}
use Rattle.cert_checker.specs.declared.refusal.RefusalCode.TheVariants.{CutWeak}
use Rattle.certificate_definitions.specs.CertificateRefusals.{cut_weak, state_line}
use Rattle.cert_checker.proofs.CertCheckerLemmas.{cut_has_basis}
use Rattle.cert_checker.proofs.EvidenceLemmas.{basis_there}
use Rattle.cert_checker.proofs.OrderLemmas.{first_in_line}
use Rattle.cert_checker.proofs.FirstLemmas.{reported_first}
use Rattle.cert_checker.proofs.RefusalsLemmas.{reported, wrong_cut, not_allowed}
use Rattle.cert_checker.proofs.checker.steps.check_cut.Goals as goal
use Rattle.cert_checker.proofs.checker.steps.check_cut.Goals.{else-is_worth-via-then-is_worth+else-allows, else-is_worth-via-else-is_worth}

-- less than what was told
not-worth : (rest value : ℕ) (b : Bool) → IsTrue b ↔ (rest ≤ value) → b ≡ false → value < rest
not-worth rest value b worth fails = elim (cases_lt value rest) [
  | inl less ↦ less
  | inr enough ↦ absurd (true≢false (sym (worth.1 enough) ∙ fails))
]

-- the line rests on a value that there is
pub is_worth-requires-clause-basis : goal.is_worth-requires-clause-basis
is_worth-requires-clause-basis c =
    let listing = c.args.listing.now in
    basis_there (certificate_at listing) listing.evidence listing.valued.landmarks (basis_of c.args.line.by)
    (cut_has_basis (task_at listing) (certificate_at listing) c.args.line.place (state_at listing c.args.state.now) c.args.line.cost (basis_of c.args.line.by) c.args.line.rest listing.cert.now.within_limits c.requires.listed)

pub returns-else-is_worth-clause-wrong : goal.returns-else-is_worth-clause-wrong
returns-else-is_worth-clause-wrong c =
    let listing = c.args.listing.now in
    let cert = certificate_at listing in
    reported (task_at listing) cert c.state_line.result CutWeak (state_line cert c.args.line.place) c.state_line.ensures
    (wrong_cut (task_at listing) cert c.args.line.place (state_at listing c.args.state.now) c.args.line.cost (basis_of c.args.line.by) c.args.line.rest c.requires.listed
    (elim c.else-is_worth.branch [
      | else-is_worth-via-then-is_worth+else-allows w ↦
          inr (not_allowed (claim_of w.claim.result) cert.claim (c.args.line.cost + c.args.line.rest) w.allows.result w.claim.ensures w.allows.ensures w.if-allows.false)
      | else-is_worth-via-else-is_worth w ↦ inl (not-worth c.args.line.rest (value_by (task_at listing) cert (basis_of c.args.line.by) (state_at listing c.args.state.now)) c.is_worth.result c.is_worth.ensures.worth w.if-is_worth.false)
    ]))

pub returns-else-is_worth-clause-first : goal.returns-else-is_worth-clause-first
returns-else-is_worth-clause-first c =
    λ plan most right.
    let listing = c.args.listing.now in
    let cert = certificate_at listing in
    reported_first (task_at listing) cert plan most c.state_line.result CutWeak (state_line cert c.args.line.place) c.state_line.ensures
    (first_in_line (task_at listing) cert plan most c.args.line.place cut_weak right refl (λ r stage rank wrong. omega arith)) tt
