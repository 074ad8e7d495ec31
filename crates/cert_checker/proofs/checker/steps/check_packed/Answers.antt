use Rattle.std.proofs.Common.{◌≡◌, ℕ, List, None, Option, length}
use Rattle.std.proofs.lemmas.Result.{IfErr-weaker, on_ok_weaker}
use Rattle.faults.proofs.Results.{passed_on}
use Rattle.model.specs.Limits.{max_numbered_atoms}
use Rattle.model.specs.Grounding.{exceeded_limit}
use Rattle.model.specs.Task.{Instance}
use Rattle.certificate.specs.Certificate.{tables_in}
use Rattle.certificate_definitions.specs.Certificates.{lines_of}
use Rattle.cert_checker.specs.CertChecker.{IsFirstRefusal}
use Rattle.cert_checker.specs.CheckedLines.{CutsAreAllowed, IsFirstGrounded, IsRightUpTo}
use Rattle.cert_checker.specs.PackedListing.{task_at, certificate_at}
use Rattle.cert_checker.proofs.VersionLemmas.{rows_apart}
use Rattle.cert_checker.proofs.FirstLemmas.{right_from, right_to_line}
use Rattle.cert_checker.proofs.RefusalsLemmas.{AreApart}
use Rattle.cert_checker.proofs.checker.steps.check_packed.Goals as goal
use Rattle.cert_checker.proofs.checker.steps.check_packed.Goals.{In_ok-check_initial}

pub returns-in_err-check_initial-clause-first : goal.returns-in_err-check_initial-clause-first
returns-in_err-check_initial-clause-first c =
    passed_on (IsFirstGrounded (task_at c.args.listing.now) (certificate_at c.args.listing.now)) c.from_residual.result c.in_err-check_initial.field-0.0 c.from_residual.ensures.1 (c.in_err-check_initial.ensures.first c.requires.fair c.requires.landmarks)

-- all is right up to the first state line
begun : (c : In_ok-check_initial) (most : ℕ) → AreApart (task_at c.args.listing.now) (certificate_at c.args.listing.now)
    → CutsAreAllowed (task_at c.args.listing.now) (certificate_at c.args.listing.now) (length (lines_of (task_at c.args.listing.now) (certificate_at c.args.listing.now)))
    → exceeded_limit most max_numbered_atoms (task_at c.args.listing.now) (certificate_at c.args.listing.now).atoms ≡ None
    → IsRightUpTo (task_at c.args.listing.now) (certificate_at c.args.listing.now) most 0
begun c most distinct allowed within =
    let listing = c.args.listing.now in
    let keeps = listing.cert.now.within_limits in
    right_from (task_at listing) (certificate_at listing) most keeps (rows_apart (tables_in listing.cert.now)) distinct listing.listed.fluent allowed within listing.symmetric c.requires.fair c.requires.landmarks c.in_ok-check_initial.ensures.right

pub returns-clause-right : goal.returns-clause-right
returns-clause-right c =
    let task = task_at c.args.listing.now in
    let cert = certificate_at c.args.listing.now in
    on_ok_weaker c.check_lines.result
    (λ closed distinct allowed most within.
    right_to_line task cert most (length (lines_of task cert)) (begun (goal.at.returns-clause-right c).In_ok-check_initial most distinct allowed within) (λ place line lt at. closed place line at)) c.check_lines.ensures.right

pub returns-clause-first : goal.returns-clause-first
returns-clause-first c =
    let task = task_at c.args.listing.now in
    let cert = certificate_at c.args.listing.now in
    IfErr-weaker c.check_lines.result (λ e. (plan : Option (List Instance)) (most : ℕ) → IsRightUpTo task cert most 0 → IsFirstRefusal task cert plan most e) (IsFirstGrounded task cert)
    (λ e first distinct allowed plan most within. first plan most (begun (goal.at.returns-clause-first c).In_ok-check_initial most distinct allowed within)) c.check_lines.ensures.first
