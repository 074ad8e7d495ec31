use Rattle.std.proofs.Common.{◌≡◌, ◌∙◌, ℕ, List, [], Option, Some, inl, inr, ap, length, subst, arith}
use Rattle.std.specs.Prelude.{slice_get}
use Rattle.std.proofs.lemmas.Bool.{cases_eq}
use Rattle.cert_checker.specs.CertChecker.{IsFirstRefusal}
use Rattle.cert_checker.specs.CheckedLines.{IsRightUpTo}
use Rattle.cert_checker.specs.PackedListing.{task_at, certificate_at}
use Rattle.model.specs.Task.{Instance}
use Rattle.faults.proofs.Results.{passed_on}
use Rattle.cert_checker.proofs.FirstLemmas.{right_to_line}
use Rattle.std.proofs.lemmas.Option.{slice_get_within}
use Rattle.cert_checker.proofs.PackedLinesLemmas.{length-set_of}
use Rattle.cert_checker.proofs.RefusalsLemmas.{as_many_marks}
use Rattle.cert_checker.proofs.checker.steps.check_lines.Goals as goal

pub loop-place-init : goal.loop-place-init
loop-place-init c = record {
  state = ap length c.in_ok-state.ensures ∙ length-set_of c.width-width.result [] ∙ c.width-width.ensures;
  next = ap length c.in_ok-next.ensures ∙ length-set_of c.width-width.result [] ∙ c.width-width.ensures;
  known = c.in_ok-known.ensures;
  closed = λ k line lt at. absurd (omega arith);
}

-- there is a state at the place
pub check_line-requires-clause-within : goal.check_line-requires-clause-within
check_line-requires-clause-within c =
    omega (arith, c.loop-place-test.true, as_many_marks (certificate_at c.args.listing.now) c.marks-place-end.result.now c.marks-place-end.ensures.marks)

pub loop-place-preserved : goal.loop-place-preserved
loop-place-preserved c = record {
  state = c.in_ok-check_line.ensures.state;
  next = c.in_ok-check_line.ensures.next;
  known = c.in_ok-check_line.ensures.known;
  closed = λ k line lt at.
      elim (cases_eq k c.loop-place.place) [
        | inl is ↦ c.in_ok-check_line.ensures.right line (subst (λ j. slice_get (certificate_at c.args.listing.now).lines j ≡ Some line) is at)
        | inr other ↦ c.loop-place.invariant.closed k line (omega arith) at
      ];
}

pub returns-clause-right : goal.returns-clause-right
returns-clause-right c = λ k line at.
    let cert = certificate_at c.args.listing.now in
    c.loop-place.invariant.closed k line (omega (arith, c.loop-place-test.false, slice_get_within cert.lines k line at, as_many_marks cert c.marks-place-end.result.now c.marks-place-end.ensures.marks)) at

pub returns-in_err-check_line-clause-first : goal.returns-in_err-check_line-clause-first
returns-in_err-check_line-clause-first c =
    let task = task_at c.args.listing.now in
    let cert = certificate_at c.args.listing.now in
    passed_on (λ e. (plan : Option (List Instance)) (most : ℕ) → IsRightUpTo task cert most 0 → IsFirstRefusal task cert plan most e) c.from_residual-in_err-check_line.result c.in_err-check_line.field-0.0
    c.from_residual-in_err-check_line.ensures.1
    (λ plan most right. c.in_err-check_line.ensures.first plan most (right_to_line task cert most c.loop-place.place right c.loop-place.invariant.closed))
