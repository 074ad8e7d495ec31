-- What a reader has read of a certificate, and what it implies for the certificate's whole text.
use Rattle.std.proofs.Common.{◌≡◌, ℕ, inl, inr, List, [], ◌++◌, sym, ap, subst, ◌∙◌, append-nil}
use Rattle.std.specs.Prelude.{Option, None, Some, IfSome, Result, Ok, Err, IfOk, IfErr}
use Rattle.std.specs.Io.KnownBytes.{Consumes, IsAtEnd}
use Rattle.devices.specs.Devices.{IsKept}
use Rattle.certificate_definitions.specs.CertificateChecking.{IsLineFault}
use Rattle.certificate_reader.specs.declared.reader.CertReader.{CertReader}
use Rattle.certificate_reader.specs.Reader.{source_of}
use Rattle.cert_checker.specs.declared.refusal.RefusalCode.{RefusalCode}
use Rattle.cert_checker.specs.declared.refusal.RefusalCode.TheVariants.{CertForm, CertVersion, Truncated, NotFluent, Repeated, NoInitial, Unfair, UnfairGoal, GoalOpen, SuccessorMissing, SuccessorDearer, CutWeak, CutNotAllowed, PlanInvalid, PlanDearer, Limit, DeadUnfair, DeadUnfairGoal, NotDead, NotSymmetry, ValueUnfair, ValueNotDead}
use Rattle.cert_checker.specs.declared.refusal.Refusal.{Refusal}
use Rattle.cert_checker.specs.declared.refusal.Refusal.TheVariants as refusal
use Rattle.cert_checker.specs.RefusalCode.{number_of}
use Rattle.cert_checker.specs.Reading.{CountsRefusal, IsRead, IsReportedAt}
use Rattle.cert_checker.specs.declared.checker.Accepted.{Accepted}
use Rattle.cert_checker.specs.CertChecker.{IsFirstRefusal, IsShown, IsTrueRefusal}
use Rattle.cert_checker.specs.Checking.{Accepts, Refuses}
use Rattle.model.specs.Task.{Task, Instance}
use Rattle.certificate_definitions.specs.Certificates.{Certificate}
use Rattle.model.specs.Files.{IsTaskOf}
use Rattle.task.specs.Task.{task_of}
use Rattle.devices.specs.Texts.{IsText}
use Rattle.devices.specs.declared.device.IoFault.{IoFault}
use Rattle.file_answers.specs.declared.checking.Checked.{Checked}
use Rattle.planner_main.specs.declared.failures.Failure.{Failure}
use Rattle.planner_main.specs.declared.failures.Failure.TheVariants as failure
use Rattle.printed_answers.specs.declared.reports.Report.{Report}
use Rattle.printed_answers.specs.declared.reports.Report.TheVariants as report
use Rattle.file_answers.specs.Checked.{IsChecked, IsRefusedAs, IsTrueCheck}
use Rattle.printed_answers.specs.CheckReported.{IsReportedRefusal, failure_of}
use Rattle.planner_main.specs.Program.{CountsFailure, IsCheckOn, IsCheckedIn, IsTextIfNamed}

-- What was read to the end is everything, and what was read is a prefix of it.
whole_known : (known before after : Option (List ℕ)) (text : List ℕ) → IsKept known before → Consumes before after text → IsAtEnd after → IfSome known (λ bytes. text ≡ bytes)
whole_known None before after text kept consumed ended = tt
whole_known (Some bytes) before None text kept consumed ended = absurd (subst (λ b. Consumes b None text) kept consumed)
whole_known (Some bytes) before (Some rest) text kept consumed ended =
    sym (subst (λ b. Consumes b (Some rest) text) kept consumed ∙ ap (λ l. text ++ l) ended ∙ append-nil text)

begun_known : (known before after : Option (List ℕ)) (bytes : List ℕ) → IsKept known before → Consumes before after bytes
    → (more : List ℕ) × IfSome known (λ whole. bytes ++ more ≡ whole)
begun_known None before after bytes kept consumed = ([], tt)
begun_known (Some whole) before None bytes kept consumed = absurd (subst (λ b. Consumes b None bytes) kept consumed)
begun_known (Some whole) before (Some rest) bytes kept consumed = (rest, sym (subst (λ b. Consumes b (Some rest) bytes) kept consumed))

module _ {R : Type 0} (remaining : R → Option (List ℕ)) (task : Task) (first now : CertReader R) (known : Option (List ℕ)) (kept : IsKept known (remaining (source_of first))) where
  of_beginning : (number line : ℕ)
      → (bytes : List ℕ) × Consumes (remaining (source_of first)) (remaining (source_of now)) bytes × ((more : List ℕ) → IsLineFault task (bytes ++ more) number line)
      → (text : List ℕ) × IfSome known (λ bytes. text ≡ bytes) × IsLineFault task text number line
  of_beginning number line (bytes, consumed, fault) =
      let (more, is) = begun_known known _ _ bytes kept consumed in
      (bytes ++ more, is, fault more)

  line_of_text : (code : RefusalCode) (line : ℕ) → IsReportedAt remaining task first now code line
      → (text : List ℕ) × IfSome known (λ bytes. text ≡ bytes) × IsLineFault task text (number_of code) line
  line_of_text Truncated line (bytes, consumed, ended, fault) = (bytes, whole_known known _ _ bytes kept consumed ended, fault)
  line_of_text CertForm line said = of_beginning (number_of CertForm) line said
  line_of_text CertVersion line said = of_beginning (number_of CertVersion) line said
  line_of_text NotFluent line said = of_beginning (number_of NotFluent) line said
  line_of_text Repeated line said = of_beginning (number_of Repeated) line said
  line_of_text NoInitial line said = of_beginning (number_of NoInitial) line said
  line_of_text Unfair line said = of_beginning (number_of Unfair) line said
  line_of_text UnfairGoal line said = of_beginning (number_of UnfairGoal) line said
  line_of_text GoalOpen line said = of_beginning (number_of GoalOpen) line said
  line_of_text SuccessorMissing line said = of_beginning (number_of SuccessorMissing) line said
  line_of_text SuccessorDearer line said = of_beginning (number_of SuccessorDearer) line said
  line_of_text CutWeak line said = of_beginning (number_of CutWeak) line said
  line_of_text CutNotAllowed line said = of_beginning (number_of CutNotAllowed) line said
  line_of_text PlanInvalid line said = of_beginning (number_of PlanInvalid) line said
  line_of_text PlanDearer line said = of_beginning (number_of PlanDearer) line said
  line_of_text Limit line said = of_beginning (number_of Limit) line said
  line_of_text DeadUnfair line said = of_beginning (number_of DeadUnfair) line said
  line_of_text DeadUnfairGoal line said = of_beginning (number_of DeadUnfairGoal) line said
  line_of_text NotDead line said = of_beginning (number_of NotDead) line said
  line_of_text NotSymmetry line said = of_beginning (number_of NotSymmetry) line said
  line_of_text ValueUnfair line said = of_beginning (number_of ValueUnfair) line said
  line_of_text ValueNotDead line said = of_beginning (number_of ValueNotDead) line said

  module _ (plan : Option (List Instance)) (most : ℕ) where
    of_certificate : (refusal : Refusal) (c : Certificate) → IsRead remaining task first now c → IsTrueRefusal task c plan most refusal → IsFirstRefusal task c plan most refusal
        → (text : List ℕ) × IfSome known (λ bytes. text ≡ bytes) × IsRefusedAs task text plan most refusal
    of_certificate refusal c read is_true is_first = (
      read.text,
      whole_known known _ _ read.text kept read.consumed read.at_end,
      inr (c, record { is_text = read.is_text; lines = read.lines; text_is = read.text_is; right = read.right }, is_true, is_first),
    )

    -- what is true of what was read is true of the whole text, if that is known
    true_of_text : (answer : Result Accepted Refusal) → IsReportedRefusal answer → IfOk answer (IsShown task plan)
        → IfOk answer (Accepts remaining task first now plan most) → IfErr answer (Refuses remaining task first now plan most)
        → (text : List ℕ) × IfSome known (λ bytes. text ≡ bytes) × IsTrueCheck task text plan most answer
    true_of_text (Ok accepted) is shown accepts refuses = (
      accepts.text,
      whole_known known _ _ accepts.text kept accepts.consumed accepts.at_end,
      record { accepted = accepts.accepted; within = accepts.within; answers = accepts.answers; shown = shown },
    )
    true_of_text (Err (refusal.Line code number)) is shown accepts (inl said) =
        let (text, whole, fault) = line_of_text code number said in
        (text, whole, inl fault)
    true_of_text (Err (refusal.Line code number)) is shown accepts (inr (c, read, is_true, is_first)) =
        of_certificate (refusal.Line code number) c read is_true is_first
    true_of_text (Err (refusal.Unfair i)) is shown accepts (inl said) = absurd said
    true_of_text (Err (refusal.Unfair i)) is shown accepts (inr (c, read, is_true, is_first)) =
        of_certificate (refusal.Unfair i) c read is_true is_first
    true_of_text (Err (refusal.DeadUnfair i)) is shown accepts (inl said) = absurd said
    true_of_text (Err (refusal.DeadUnfair i)) is shown accepts (inr (c, read, is_true, is_first)) =
        of_certificate (refusal.DeadUnfair i) c read is_true is_first
    true_of_text (Err (refusal.Plain code)) is shown accepts (inl (limit, (line, said))) =
        let (text, whole, fault) = line_of_text code line said in
        (text, whole, inl (limit, (line, fault)))
    true_of_text (Err (refusal.Plain code)) is shown accepts (inr (c, read, is_true, is_first)) =
        of_certificate (refusal.Plain code) c read is_true is_first
    true_of_text (Err refusal.NoMemory) is shown accepts refuses = absurd (cc is)
    true_of_text (Err refusal.Device) is shown accepts refuses = absurd (cc is)
    true_of_text (Err refusal.Failed) is shown accepts refuses = absurd (cc is)

  -- the answer is true of the whole text, if that is known
  pub checked_in : (domain problem : List ℕ) (plan : Option (List ℕ)) (most : ℕ) (answer : Result Accepted Refusal) → IsTaskOf domain problem task
      → IsChecked remaining task first now plan most answer → IsReportedRefusal answer → IsCheckedIn known domain problem plan most task answer
  checked_in domain problem plan most answer is_task checked said =
      let (text, whole, is_true) = true_of_text checked.plan most answer said checked.shown checked.accepted checked.refused in
      (text, checked.plan, whole, is_task, checked.given, is_true, said)

-- The result for the texts of files is the result for the files.
pub check_on_inputs : (contents : List ℕ → Option (List ℕ)) (domain problem cert : List ℕ) (plan : Option (List ℕ)) (d p : List ℕ) (l : Option (List ℕ))
    → IsText contents domain d → IsText contents problem p → IsTextIfNamed contents plan l → (most : ℕ) (r : Result Report Failure)
    → IfOk r (λ found. (c : Checked) × (found ≡ report.Check c) × IsCheckedIn (contents cert) d p l most (task_of c.task) c.answer)
    → IfOk r (IsCheckOn contents domain problem cert plan most)
check_on_inputs contents domain problem cert plan d p l d_is p_is l_is most (Ok found) (c, is, checked) = (c, is, (d, p, l, d_is, p_is, l_is, checked))
check_on_inputs contents domain problem cert plan d p l d_is p_is l_is most (Err f) h = tt

-- The failures counted for an answer: none if it is printed, otherwise the failure that takes its place.
pub reported_unfailed : (answer : Result Accepted Refusal) (before after : ℕ) → CountsRefusal before after answer → IsReportedRefusal answer → after ≡ before
reported_unfailed (Ok accepted) before after counts said = counts
reported_unfailed (Err (refusal.Line code line)) before after counts said = counts
reported_unfailed (Err (refusal.Unfair i)) before after counts said = counts
reported_unfailed (Err (refusal.DeadUnfair i)) before after counts said = counts
reported_unfailed (Err (refusal.Plain code)) before after counts said = counts
reported_unfailed (Err refusal.NoMemory) before after counts said = counts
reported_unfailed (Err refusal.Device) before after counts said = absurd (cc said)
reported_unfailed (Err refusal.Failed) before after counts said = counts

counted : (answer : Result Accepted Refusal) (before after : ℕ) → CountsRefusal before after answer
    → IfSome (failure_of answer) (λ fault. CountsFailure before after (failure.Device fault))
counted (Ok accepted) before after counts = tt
counted (Err (refusal.Line code line)) before after counts = tt
counted (Err (refusal.Unfair i)) before after counts = tt
counted (Err (refusal.DeadUnfair i)) before after counts = tt
counted (Err (refusal.Plain code)) before after counts = tt
counted (Err refusal.NoMemory) before after counts = counts
counted (Err refusal.Device) before after counts = counts
counted (Err refusal.Failed) before after counts = counts

pub fails_as_counted : (answer : Result Accepted Refusal) (before after : ℕ) → CountsRefusal before after answer
    → (fault : IoFault) → failure_of answer ≡ Some fault → CountsFailure before after (failure.Device fault)
fails_as_counted answer before after counts fault is =
    subst (λ (o : Option IoFault). IfSome o (λ fault. CountsFailure before after (failure.Device fault))) is (counted answer before after counts)
