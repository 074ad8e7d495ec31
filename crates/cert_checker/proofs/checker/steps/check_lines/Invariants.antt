use Rattle.std.proofs.Common.{◌≡◌, ℕ, ◌<◌, Some}
use Rattle.std.specs.Prelude.{slice_get}
use Rattle.cert_checker.specs.CheckedLines.{IsLineClosed}
use Rattle.cert_checker.specs.PackedListing.{task_at, certificate_at, IsKnownIn, IsPacked}
use Rattle.certificate_definitions.specs.Certificates.{StateLine}
use Rattle.cert_checker.proofs.checker.steps.check_lines.Given as goal

-- the lines so far are closed
abbrev pub invariant-loop-place : goal.invariant-loop-place
invariant-loop-place l = record {
  state : IsPacked l.listing l.state;
  next : IsPacked l.listing l.next;
  known : IsKnownIn l.listing l.known;
  closed : (k : ℕ) (line : StateLine) → k < l.place → slice_get (certificate_at l.listing).lines k ≡ Some line
      → IsLineClosed (task_at l.listing) (certificate_at l.listing) line;
}
