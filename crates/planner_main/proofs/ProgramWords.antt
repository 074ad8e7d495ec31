-- What the program reports for the order given by its words.
use Rattle.std.proofs.Common.{◌≡◌, ℕ, ◌⊎◌, inl, inr, List, take, refl, sym, ap, ◌∙◌, subst, arith}
use Rattle.std.specs.Prelude.{Result, Ok, Err, Option, None, Some, IfSome, OnOk, IsTrue, Bool, true, false}
use Rattle.std.specs.Io.KnownBytes.{Appends}
use Rattle.solver.specs.declared.answer.Answer.{Answer}
use Rattle.solver.specs.declared.answer.Answer.TheVariants.{Plan, Unsolvable, Unknown}
use Rattle.planner_main.specs.declared.failures.Failure.{Failure}
use Rattle.planner_main.specs.declared.failures.Failure.TheVariants as failure
use Rattle.file_answers.specs.declared.files.FileFault.TheVariants as refusal
use Rattle.devices.specs.declared.device.IoFault.TheVariants as device
use Rattle.command_line.specs.Orders.{Asks, IsCommand, Request, to_solve, to_validate, to_check, to_explain, to_explain_cert}
use Rattle.command_line.specs.View.{IsOfWords}
use Rattle.command_line.specs.declared.fault.WordsFault.{WordsFault}
use Rattle.command_line.proofs.OrderLemmas.{one_request}
use Rattle.devices.specs.Written.{NamedText}
use Rattle.file_answers.specs.Inputs.{IsInputFault}
use Rattle.printed_answers.specs.CheckReported as check
use Rattle.printed_answers.specs.Reported as reported
use Rattle.printed_answers.specs.Reported.{status_of}
use Rattle.printed_answers.specs.declared.reports.Report.{Report}
use Rattle.printed_answers.specs.declared.reports.Report.TheVariants as report
use Rattle.validator.specs.Verdict.{verdict_of}
use Rattle.cert_checker.specs.declared.refusal.Refusal.{Refusal}
use Rattle.cert_checker.specs.declared.checker.Accepted.{Accepted}
use Rattle.planner_main.specs.Program.{IsTextIfNamed, OnTwo, OnThree, OnInputs, IsAnswerTo, IsReportOn, Refuses, fault_in, IsFaultFor, IsOneOf, IsReportedOn, IsReportedOfWords, SaysOfWords, HasFailed, HasNotFailed, CountsFailure, CountsEither, device_failure}
use Rattle.devices.specs.Texts.{IsText, AreKept}
use Rattle.explain_hints.specs.declared.texts.File.{File}
use Rattle.file_answers.specs.declared.files.FileFault as file
use Rattle.faults.specs.declared.code.Code.{Code}
use Rattle.faults.specs.declared.refused.Span.{Span}
use Rattle.planner_main.specs.Failures.{device_line, line_of_fault, no_memory_line}
use Rattle.file_answers.specs.Files.{fault_at}
use Rattle.devices.specs.declared.device.IoFault.{IoFault}
use Rattle.devices.specs.Devices.{AppendsBeginning, CountsDevice, IsWritten, one_more}
use Rattle.planner_main.specs.Failures.{is_failure}
use Rattle.printed_answers.specs.VerdictReported as verdict
use Rattle.printed_answers.specs.AnswerReported as answer
use Rattle.printed_answers.specs.ExplanationReported as explanation
use Rattle.file_answers.specs.declared.explanation.Subject.{Subject}
use Rattle.file_answers.specs.declared.explanation.Subject.TheVariants as subject
use Rattle.file_answers.specs.declared.explanation.Grounded.TheVariants as grounded
use Rattle.model.specs.Runs.{Verdict, valid, not_applicable, goal_missed}
use Rattle.model.specs.Files.{FileFault, IsTaskFault, IsFileFault}

-- The text of a file after other files were read is a text that it had.
pub text_kept : (before after : List ℕ → Option (List ℕ)) → ((other : List ℕ) → after other ≡ before other) → (name text : List ℕ)
    → IsText after name text → IsText before name text
text_kept before after kept name text is = subst (λ (known : Option (List ℕ)). IfSome known (λ bytes. text ≡ take 16777217 bytes)) (kept name) is

pub text_if_named_kept : (before after : List ℕ → Option (List ℕ)) → ((other : List ℕ) → after other ≡ before other) → (name text : Option (List ℕ))
    → IsTextIfNamed after name text → IsTextIfNamed before name text
text_if_named_kept before after kept None None is = tt
text_if_named_kept before after kept None (Some text) is = absurd is
text_if_named_kept before after kept (Some name) None is = absurd is
text_if_named_kept before after kept (Some name) (Some text) is = text_kept before after kept name text is

-- A refusal for the order is a refusal for the words that give it: the exit status for a text comes with the line of the fault in
-- the failure.
module _ (contents : List ℕ → Option (List ℕ)) (words : List (List ℕ)) (request : Request) (asks : Asks words request) (after : List ℕ → Option (List ℕ)) (out out_after : Option (List ℕ)) (Says : List ℕ → Type 0) where
  pub refuses_of_words : (f : Failure) (status : ℕ) → IsReportedOn f Says status → status ≡ 20
      → IfSome (fault_in f) (λ fault. IsFaultFor contents request fault × (out_after ≡ out) × AreKept contents after)
      → Refuses words contents after out out_after Says
  refuses_of_words (failure.Text (refusal.At file code span)) status (inl (is, line)) same (fault, kept, files_kept) =
      (fault_at file code span, (request, asks, fault), kept, files_kept, line)
  refuses_of_words (failure.Text (refusal.At file code span)) status (inr (is, line)) same h = absurd (omega arith)
  refuses_of_words (failure.Text refusal.NoMemory) status (is, line) same h = absurd (omega arith)
  refuses_of_words (failure.Device device.Device) status (is, line) same h = absurd (omega arith)
  refuses_of_words (failure.Device device.NoMemory) status (is, line) same h = absurd (omega arith)

-- The files that words name are those of their order.
pub files_named : (files_of : Request → List (List ℕ)) (words : List (List ℕ)) (request : Request) (name : List ℕ) → Asks words request
    → (other : Request) × Asks words other × IsOneOf (files_of other) name → IsOneOf (files_of request) name
files_named files_of words request name asks (other, others, is) =
    subst (λ (w : Request). IsOneOf (files_of w) name) (one_request words other request others asks) is

-- The exit status of a result is not that of a failure, except that of a refused text, if it is explained.
abbrev pub IsOfReport : ℕ → Type 0
IsOfReport status = (is_failure status ≡ false) ⊎ (status ≡ 20)

verdict_status : (v : Verdict) → is_failure (verdict.status_of v) ≡ false
verdict_status (valid cost) = refl
verdict_status (not_applicable step) = refl
verdict_status goal_missed = refl

answer_status : (a : Answer) → is_failure (answer.status_of a) ≡ false
answer_status (Plan steps cost cert) = refl
answer_status (Unsolvable cert) = refl
answer_status (Unknown limit) = refl

checked_status : (answer : Result Accepted Refusal) → is_failure (check.status_of answer) ≡ false
checked_status (Ok accepted) = refl
checked_status (Err refusal) = refl

explanation_status : (subject : Subject) → IsOfReport (explanation.status_of subject)
explanation_status (subject.Fault file code span) = inr refl
explanation_status (subject.Plan v) = inl (verdict_status (verdict_of v))
explanation_status (subject.Task holds (grounded.Within instances atoms)) = inl refl
explanation_status (subject.Task holds (grounded.Beyond limit)) = inl refl

report_status : (r : Report) → IsOfReport (status_of r)
report_status (report.Solve solved) = inl (answer_status solved.answer)
report_status (report.Validate v) = inl (verdict_status (verdict_of v))
report_status (report.Check checked) = inl (checked_status checked.answer)
report_status (report.Explain e) = explanation_status e.subject
report_status (report.ExplainCheck e) = inl (checked_status e.checked.answer)

pub answered_status : (contents : List ℕ → Option (List ℕ)) (request : Request) (text : List ℕ) (status : ℕ) (written : List NamedText)
    → IsAnswerTo contents request text status written → IsOfReport status
answered_status contents request text status written (found, is_found, (is_text, is_status, files)) = subst IsOfReport (sym is_status) (report_status found)

-- the result for files can be printed
pub can_be_reported : (contents : List ℕ → Option (List ℕ)) (request : Request) (found : Report) → IsReportOn contents request found → reported.IsReported found
can_be_reported contents (to_validate domain problem plan json) found (v, is, on) = subst reported.IsReported (sym is) tt
can_be_reported contents (to_solve domain problem asked) found (s, is, version, on) = subst reported.IsReported (sym is) tt
can_be_reported contents (to_check domain problem cert asked) found (c, is, (d, p, l, d_is, p_is, l_is, (text, steps, whole, is_task, handed, is_true, said))) =
    subst reported.IsReported (sym is) said
can_be_reported contents (to_explain domain problem asked) found (e, is, on) = subst reported.IsReported (sym is) tt
can_be_reported contents (to_explain_cert domain problem cert asked) found (inl (e, is, (d, p, l, d_is, p_is, l_is, (text, steps, whole, is_task, handed, is_true, said)))) =
    subst reported.IsReported (sym is) said
can_be_reported contents (to_explain_cert domain problem cert asked) found (inr (faulty, (e, is, on))) = subst reported.IsReported (sym is) tt

pub no_failure : (n status : ℕ) → IsOfReport status → is_failure n ≡ true → (n ≡ 20 → ⊥) → status ≡ n → ⊥
no_failure n status (inl answers) fails other same = absurd (cc (ap is_failure same))
no_failure n status (inr is) fails other same = absurd (other (sym same ∙ is))

-- A reported failure has its exit status: not that of words that are not a command, and that of a device or of memory with its
-- line.
module _ (Says : List ℕ → Type 0) (status : ℕ) where
  pub failed_status : (f : Failure) → IsReportedOn f Says status → status ≡ 2 → ⊥
  failed_status (failure.Text (refusal.At file code span)) (inl (is, line)) same = absurd (omega arith)
  failed_status (failure.Text (refusal.At file code span)) (inr (is, line)) same = absurd (omega arith)
  failed_status (failure.Text refusal.NoMemory) (is, line) same = absurd (omega arith)
  failed_status (failure.Device device.Device) (is, line) same = absurd (omega arith)
  failed_status (failure.Device device.NoMemory) (is, line) same = absurd (omega arith)

  pub device_reported : (f : Failure) → IsReportedOn f Says status → status ≡ 21 → (f ≡ device_failure) × Says device_line
  device_reported (failure.Text (refusal.At file code span)) (inl (is, line)) same = absurd (omega arith)
  device_reported (failure.Text (refusal.At file code span)) (inr (is, line)) same = absurd (omega arith)
  device_reported (failure.Text refusal.NoMemory) (is, line) same = absurd (omega arith)
  device_reported (failure.Device device.Device) (is, line) same = (refl, line)
  device_reported (failure.Device device.NoMemory) (is, line) same = absurd (omega arith)

  pub memory_reported : (f : Failure) → IsReportedOn f Says status → status ≡ 22 → Says no_memory_line
  memory_reported (failure.Text (refusal.At file code span)) (inl (is, line)) same = absurd (omega arith)
  memory_reported (failure.Text (refusal.At file code span)) (inr (is, line)) same = line
  memory_reported (failure.Text refusal.NoMemory) (is, line) same = line
  memory_reported (failure.Device device.Device) (is, line) same = absurd (omega arith)
  memory_reported (failure.Device device.NoMemory) (is, line) same = line

  -- If no fault of a text is reported, the exit status is that of a device or of memory.
  pub unread_status : (f : Failure) → fault_in f ≡ None → IsReportedOn f Says status → (status ≡ 21) ⊎ (status ≡ 22)
  unread_status (failure.Text (refusal.At file code span)) unread said = absurd (cc unread)
  unread_status (failure.Text refusal.NoMemory) unread (is, line) = inr is
  unread_status (failure.Device device.Device) unread (is, line) = inl is
  unread_status (failure.Device device.NoMemory) unread (is, line) = inr is

  -- The failure of a text is reported as the failure that it is.
  pub fault_reported : (f : Failure) (t : file.FileFault) (named : File) (code : Code) (span : Span) → f ≡ failure.Text t → t ≡ refusal.At named code span
      → ((status ≡ 20) × Says (line_of_fault (fault_at named code span))) ⊎ ((status ≡ 22) × Says no_memory_line)
      → IsReportedOn f Says status
  fault_reported f t named code span first second said = subst (λ f. IsReportedOn f Says status) (sym (first ∙ ap failure.Text second)) said

-- Words that are not an order are reported with the exit status for such words and what is wrong with them, or that of memory
-- with its line.
module _ (fault : WordsFault) (Says : List ℕ → Type 0) (status : ℕ) where
  pub words_failed : IsReportedOfWords fault Says status → is_failure status ≡ true
  words_failed (inl (is, of_words, says)) = ap is_failure is
  words_failed (inr (is, said)) = ap is_failure is

  pub words_status : IsReportedOfWords fault Says status → (status ≡ 2) ⊎ (status ≡ 22)
  words_status (inl (is, of_words, says)) = inl is
  words_status (inr (is, said)) = inr is

  pub words_reported : IsReportedOfWords fault Says status → status ≡ 2 → IsOfWords fault × SaysOfWords Says
  words_reported (inl (is, of_words, says)) same = (of_words, says)
  words_reported (inr (is, said)) same = absurd (omega arith)

  pub words_memory : IsReportedOfWords fault Says status → status ≡ 22 → Says no_memory_line
  words_memory (inl (is, of_words, says)) same = absurd (omega arith)
  words_memory (inr (is, said)) same = said

  pub words_no_answer : IsReportedOfWords fault Says status → (status ≡ 0) ⊎ (status ≡ 10) → ⊥
  words_no_answer (inl (is, of_words, says)) (inl same) = absurd (omega arith)
  words_no_answer (inl (is, of_words, says)) (inr same) = absurd (omega arith)
  words_no_answer (inr (is, said)) (inl same) = absurd (omega arith)
  words_no_answer (inr (is, said)) (inr same) = absurd (omega arith)

  pub words_refuse_no_text : IsReportedOfWords fault Says status → status ≡ 20 → ⊥
  words_refuse_no_text (inl (is, of_words, says)) same = absurd (omega arith)
  words_refuse_no_text (inr (is, said)) same = absurd (omega arith)

  pub words_fail_no_device : IsReportedOfWords fault Says status → status ≡ 21 → ⊥
  words_fail_no_device (inl (is, of_words, says)) same = absurd (omega arith)
  words_fail_no_device (inr (is, said)) same = absurd (omega arith)

  -- For words that are a command the only failure is one of memory.
  pub unread_words : (words : List (List ℕ)) → IsReportedOfWords fault Says status → (IsOfWords fault → IsCommand words → ⊥) → IsCommand words
      → (status ≡ 21) ⊎ (status ≡ 22)
  unread_words words (inl (is, of_words, says)) refused command = absurd (refused of_words command)
  unread_words words (inr (is, said)) refused command = inr is

-- The failures counted for a device, in a call of the files after another that counted none.
pub device_counted : (T : Type 0) (before opened after : ℕ) (fault : IoFault) → opened ≡ before → CountsDevice {T = T} opened after (Err fault)
    → CountsFailure before after (failure.Device fault)
device_counted T before opened after device.Device same counted = counted ∙ ap one_more same
device_counted T before opened after device.NoMemory same counted = counted ∙ same

-- Nothing is required of a failure without a fault.
pub without_fault : (f : Failure) (P : FileFault → Type 0) → fault_in f ≡ None → IfSome (fault_in f) P
without_fault f P is = subst (λ (fault : Option FileFault). IfSome fault P) (sym is) tt

-- A refusal is a refusal with this additional property.
pub refused_and : (P : FileFault → Type 0) (Q R : Type 0) (o : Option FileFault) → Q → R → IfSome o P → IfSome o (λ fault. P fault × Q × R)
refused_and P Q R None q r refused = tt
refused_and P Q R (Some fault) q r refused = (refused, q, r)

-- the same, after a call of the files that counted none
pub either_since : (before now after out out_after : ℕ) (f : Failure) → now ≡ before → CountsEither now after out out_after f
    → CountsEither before after out out_after f
either_since before now after out out_after f same counted = subst (λ files. CountsEither files after out out_after f) same counted

module _ (files files_after out out_after : ℕ) where
  pub device_has_failed : (f : Failure) → f ≡ device_failure → CountsEither files files_after out out_after f → HasFailed files files_after out out_after
  device_has_failed f is counted = subst (CountsEither files files_after out out_after) is counted

  pub others_have_not_failed : (Says : List ℕ → Type 0) (status : ℕ) (f : Failure) → IsReportedOn f Says status
      → CountsEither files files_after out out_after f → (status ≡ 21 → ⊥) → HasNotFailed files files_after out out_after
  others_have_not_failed Says status (failure.Text fault) said counted other = counted
  others_have_not_failed Says status (failure.Device device.Device) said counted other = absurd (other said.0)
  others_have_not_failed Says status (failure.Device device.NoMemory) said counted other = counted

-- The refusals for the texts of files.
module _ (contents : List ℕ → Option (List ℕ)) where
  pub refused_on_two : (domain problem d p : List ℕ) → IsText contents domain d → IsText contents problem p
      → (o : Option FileFault) → IfSome o (IsTaskFault d p)
      → IfSome o (λ fault. OnTwo contents domain problem (λ d p. IsTaskFault d p fault))
  refused_on_two domain problem d p d_is p_is None h = tt
  refused_on_two domain problem d p d_is p_is (Some fault) h = (d, p, d_is, p_is, h)

  pub refused_on_three : (domain problem plan d p l : List ℕ) → IsText contents domain d → IsText contents problem p → IsText contents plan l
      → (o : Option FileFault) → IfSome o (IsFileFault d p l)
      → IfSome o (λ fault. OnThree contents domain problem plan (λ d p l. IsFileFault d p l fault))
  refused_on_three domain problem plan d p l d_is p_is l_is None h = tt
  refused_on_three domain problem plan d p l d_is p_is l_is (Some fault) h = (d, p, l, d_is, p_is, l_is, h)

  pub refused_on_inputs : (domain problem : List ℕ) (plan : Option (List ℕ)) (d p : List ℕ) (l : Option (List ℕ)) → IsText contents domain d → IsText contents problem p
      → IsTextIfNamed contents plan l → (o : Option FileFault) → IfSome o (IsInputFault d p l)
      → IfSome o (λ fault. OnInputs contents domain problem plan (λ d p l. IsInputFault d p l fault))
  refused_on_inputs domain problem plan d p l d_is p_is l_is None h = tt
  refused_on_inputs domain problem plan d p l d_is p_is l_is (Some fault) h = (d, p, l, d_is, p_is, l_is, h)

-- the guarantee of a call that writes all of the bytes or says why not
pub written_by : {T : Type 0} (may_lack_memory : Bool) (failures failures_after : ℕ) (before after : Option (List ℕ)) (bytes : List ℕ) (r : Result T IoFault)
    → OnOk r (Appends before after bytes) → AppendsBeginning before after bytes → CountsDevice failures failures_after r
    → (r ≡ Err device.NoMemory → IsTrue may_lack_memory) → IsWritten may_lack_memory failures failures_after before after bytes
written_by may_lack_memory failures failures_after before after bytes (Ok done) all beginning counted needs = (beginning, inl all)
written_by may_lack_memory failures failures_after before after bytes (Err device.Device) all beginning counted needs = (beginning, inr (inl counted))
written_by may_lack_memory failures failures_after before after bytes (Err device.NoMemory) all beginning counted needs = (beginning, inr (inr (needs refl)))
