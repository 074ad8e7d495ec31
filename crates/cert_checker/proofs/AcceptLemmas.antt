-- What is reported for a text, by what is reported for the certificate that was read from it.
use Rattle.std.proofs.Common.{◌≡◌, ℕ, List, ◌++◌, Option, None, Some, inr, sym, ap, ◌∙◌, subst, append-nil, arith}
use Rattle.std.specs.Prelude.{IfErr, IfOk, OnOk, Ok, Err, Result}
use Rattle.std.specs.Io.KnownBytes.{Consumes, IsAtEnd}
use Rattle.certificate_definitions.specs.CertificateNames.{IsTextOf}
use Rattle.certificate_definitions.specs.CertificateChecking.{IsAccepted, IsLineFault}
use Rattle.certificate_reader.specs.declared.reader.CertReader.{CertReader}
use Rattle.certificate_reader.specs.Reader.{source_of}
use Rattle.cert_checker.specs.declared.refusal.Refusal.{Refusal}
use Rattle.cert_checker.specs.declared.refusal.Refusal.TheVariants as refusal
use Rattle.cert_checker.specs.declared.refusal.RefusalCode.{RefusalCode}
use Rattle.cert_checker.specs.declared.refusal.RefusalCode.TheVariants as code
use Rattle.cert_checker.specs.RefusalCode.{number_of}
use Rattle.cert_checker.specs.Reasons.{reason_of}
use Rattle.cert_checker.specs.Reading.{CountsRefusal, IsLineRefusal, IsRead, IsReportedAt}
use Rattle.cert_checker.proofs.AcceptedLemmas.{accepted_has_no_fault}
use Rattle.cert_checker.proofs.LimitsLemmas.{one_certificate}
use Rattle.model.specs.Task.{Task, Instance}
use Rattle.model.specs.Claims.{Claim}
use Rattle.model.specs.Limits.{max_numbered_atoms}
use Rattle.model.specs.Grounding.{exceeded_limit}
use Rattle.certificate_definitions.specs.Certificates.{Certificate, IsClosedFor}
use Rattle.certificate_definitions.specs.CertificateRefusals.{IsPlanWithin}
use Rattle.cert_checker.specs.declared.checker.Accepted.{Accepted}
use Rattle.cert_checker.specs.declared.checker.Accepted.TheVariants.{Optimal, AtLeast, Unsolvable}
use Rattle.cert_checker.specs.CertChecker.{Answers, IsFirstRefusal, IsNoFault, IsShown, IsTrueRefusal}
use Rattle.cert_checker.specs.Checking.{Accepts, Refuses}
use Rattle.cert_checker.proofs.AnswerLemmas.{no_fault}

-- the plan that was given costs what is claimed
plan_within : (task : Task) (claim : Claim) (plan : Option (List Instance)) (answer : Accepted) → IsShown task plan answer → Answers claim plan answer → IsPlanWithin task claim plan
plan_within task claim None answer shown answers = tt
plan_within task claim (Some p) (Optimal cost) (best, costs) (is, there) =
    subst (λ claim. IsPlanWithin task claim (Some p)) (sym is) (best.0, omega (arith, costs))
plan_within task claim (Some p) (AtLeast cost) shown (is, nothing) = absurd (cc)
plan_within task claim (Some p) Unsolvable shown (is, nothing) = absurd (cc)

-- ---- the text that was known

all_of : (before after : Option (List ℕ)) (bytes text : List ℕ) → Consumes before after bytes → IsAtEnd after → before ≡ Some text → bytes ≡ text
all_of None after bytes text consumed at_end known = absurd (cc)
all_of (Some all) None bytes text consumed at_end known = absurd consumed
all_of (Some all) (Some rest) bytes text consumed at_end known =
    let same : all ≡ text = cc in
    sym (append-nil bytes) ∙ ap (λ rest. bytes ++ rest) (sym at_end) ∙ sym consumed ∙ same

more_of : (before after : Option (List ℕ)) (bytes text : List ℕ) → Consumes before after bytes → before ≡ Some text → (rest : List ℕ) × (bytes ++ rest ≡ text)
more_of None after bytes text consumed known = absurd (cc)
more_of (Some all) None bytes text consumed known = absurd consumed
more_of (Some all) (Some rest) bytes text consumed known =
    let same : all ≡ text = cc in
    (rest, sym consumed ∙ same)

module _ {R : Type 0} (remaining : R → Option (List ℕ)) (task : Task) (first now : CertReader R) where
  module _ (text : List ℕ) (known : remaining (source_of first) ≡ Some text) where
    reported_anyway : (line number : ℕ)
        → (bytes : List ℕ) × Consumes (remaining (source_of first)) (remaining (source_of now)) bytes × ((more : List ℕ) → IsLineFault task (bytes ++ more) number line) → IsLineFault task text number line
    reported_anyway line number (bytes, consumed, fault) =
        let (rest, whole) = more_of (remaining (source_of first)) (remaining (source_of now)) bytes text consumed known in
        subst (λ text. IsLineFault task text number line) whole (fault rest)

    -- what is reported for a line is reported for the text
    reported_of_text : (c : RefusalCode) (line : ℕ) → IsReportedAt remaining task first now c line → IsLineFault task text (number_of c) line
    reported_of_text code.Truncated line (bytes, consumed, at_end, fault) =
        subst (λ text. IsLineFault task text 42 line) (all_of (remaining (source_of first)) (remaining (source_of now)) bytes text consumed at_end known) fault
    reported_of_text c line reported = reported_anyway line (number_of c) reported

    -- no line of an accepted text is refused
    pub none_at_fault : (plan : Option (List Instance)) → IsAccepted task text plan → (e : Refusal) → IsLineRefusal remaining task first now e → IsNoFault e
    none_at_fault plan accepted (refusal.Line c line) reported = accepted_has_no_fault task text plan accepted (number_of c) line (reported_of_text c line reported)
    none_at_fault plan accepted (refusal.Plain c) (is, (line, reported)) = ap reason_of is
    none_at_fault plan accepted refusal.NoMemory reported = tt
    none_at_fault plan accepted refusal.Device reported = tt
    none_at_fault plan accepted _ reported = absurd reported

    -- and its certificate is not refused
    pub not_refused : (plan : Option (List Instance)) (most : ℕ) (c : Certificate) → IsRead remaining task first now c → IsAccepted task text plan → (r : Result Accepted Refusal)
        → IfErr r (IsTrueRefusal task c plan most) → IfErr r IsNoFault
    not_refused plan most c read accepted (Ok answer) wrong = tt
    not_refused plan most c read accepted (Err e) wrong =
        let whole = all_of (remaining (source_of first)) (remaining (source_of now)) read.text text read.consumed read.at_end known in
        let same = one_certificate task text accepted.certificate c accepted.is_text (subst (λ text. IsTextOf task text c) whole read.is_text) in
        no_fault task c plan most (subst (IsClosedFor task) same accepted.closed) (subst (λ (c : Certificate). IsPlanWithin task c.claim plan) same accepted.within) e wrong

  module _ (plan : Option (List Instance)) (most : ℕ) (c : Certificate) (read : IsRead remaining task first now c) where
    pub accepts_read : (r : Result Accepted Refusal) → IfOk r (IsShown task plan) → OnOk r (IsClosedFor task c) → IfOk r (Answers c.claim plan)
        → OnOk r (exceeded_limit most max_numbered_atoms task c.atoms ≡ None) → IfOk r (Accepts remaining task first now plan most)
    accepts_read (Ok answer) shown closed answers within = record {
      text = read.text;
      consumed = read.consumed;
      at_end = read.at_end;
      accepted = record { certificate = c; is_text = read.is_text; closed = closed; within = plan_within task c.claim plan answer shown answers };
      within = within;
      answers = answers;
    }
    accepts_read (Err e) shown closed answers within = tt

    pub refuses_read : (r : Result Accepted Refusal) → IfErr r (IsTrueRefusal task c plan most) → IfErr r (IsFirstRefusal task c plan most) → IfErr r (Refuses remaining task first now plan most)
    refuses_read (Ok answer) wrong first = tt
    refuses_read (Err e) wrong first = inr (c, read, wrong, first)

-- the refusal of a certificate is none of a device
pub counts_judged : (task : Task) (c : Certificate) (plan : Option (List Instance)) (most before after : ℕ) (r : Result Accepted Refusal) → IfErr r (IsTrueRefusal task c plan most)
    → after ≡ before → CountsRefusal before after r
counts_judged task c plan most before after (Err refusal.Device) wrong same = absurd wrong
counts_judged task c plan most before after _ wrong same = same
