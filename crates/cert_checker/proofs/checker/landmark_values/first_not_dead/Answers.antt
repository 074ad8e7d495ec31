use Rattle.std.proofs.Common.{◌≡◌, ◌∙◌, ℕ, ◌+◌, ◌<◌, Bool, false, List, length, map, get_or, Some, inl, inr, ap, sym, subst, arith}
use Rattle.std.specs.Prelude.{slice_get}
use Rattle.std.proofs.lemmas.Bool.{cases_eq}
use Rattle.std.proofs.lemmas.Option.{slice_get-get_or, slice_get_within}
use Rattle.certificate_reader.specs.Lines.{mark_of}
use Rattle.certificate_reader.specs.declared.line.Mark.TheVariants.{Expanded}
use Rattle.certificate.specs.declared.states.Listed.{Listed}
use Rattle.certificate.specs.CertificateParts.{listed_of}
use Rattle.certificate.specs.ListedSets.{marked}
use Rattle.certificate.specs.Certificate.{certificate_of}
use Rattle.certificate_definitions.specs.Certificates.{Certificate, StateLine}
use Rattle.cert_checker.specs.CheckedLines.{HasCost}
use Rattle.cert_checker.specs.LandmarkFaults.{rests_on_another}
use Rattle.cert_checker.proofs.RefusalsLemmas.{as_many_marks, has_cost}
use Rattle.cert_checker.proofs.checker.landmark_values.first_not_dead.Goals as goal

-- what is listed at a place within the lines
line_at : (cert : Certificate) (marks : List Listed) (place : ℕ) → map listed_of marks ≡ map marked cert.lines → place < length marks
    → HasCost cert place (get_or marks place (record { cost = 0; mark = Expanded })).cost (mark_of (get_or marks place (record { cost = 0; mark = Expanded })).mark)
line_at cert marks place same within =
    has_cost cert marks place (get_or marks place (record { cost = 0; mark = Expanded })) same (slice_get-get_or marks place (record { cost = 0; mark = Expanded }) within)

-- one line more is not at fault
one_more : (test : StateLine → Bool) (lines : List StateLine) (place : ℕ) (l : StateLine) → slice_get lines place ≡ Some l → test l ≡ false
    → ((k : ℕ) (line : StateLine) → k < place → slice_get lines k ≡ Some line → test line ≡ false)
    → (k : ℕ) (line : StateLine) → k < place + 1 → slice_get lines k ≡ Some line → test line ≡ false
one_more test lines place l here is before k line below at =
    elim (cases_eq k place) [
      | inl same ↦
          let there : slice_get lines place ≡ Some line = subst (λ n. slice_get lines n ≡ Some line) same at in
          let both : l ≡ line = cc in
          subst (λ (x : StateLine). test x ≡ false) both is
      | inr other ↦ before k line (omega arith) at
    ]

pub returns-then-rests_on_another : goal.returns-then-rests_on_another
returns-then-rests_on_another c =
    let (l, at, cost, mark) = line_at (certificate_of c.args.cert.now) c.marks-marks.result.now c.loop-place.place c.marks-marks.ensures.marks c.loop-place-test.true in
    (l, at, ap (rests_on_another c.args.found.now) mark ∙ sym c.rests_on_another.ensures ∙ c.if-rests_on_another.true, c.loop-place.invariant)

pub loop-place-preserved : goal.loop-place-preserved
loop-place-preserved c =
    let cert = certificate_of c.args.cert.now in
    let (l, at, cost, mark) = line_at cert c.marks-marks.result.now c.loop-place.place c.marks-marks.ensures.marks c.loop-place-test.true in
    one_more (λ (line : StateLine). rests_on_another c.args.found.now line.mark) cert.lines c.loop-place.place l at
    (ap (rests_on_another c.args.found.now) mark ∙ sym c.rests_on_another.ensures ∙ c.if-rests_on_another.false) c.loop-place.invariant

pub returns : goal.returns
returns c =
    let cert = certificate_of c.args.cert.now in
    λ k l at. c.loop-place.invariant k l (omega (arith, slice_get_within cert.lines k l at, c.loop-place-test.false, as_many_marks cert c.marks-marks.result.now c.marks-marks.ensures.marks)) at
