-- Progress reports, and what is reported after them.
use Rattle.std.proofs.Common.{◌≡◌, ◌∙◌, ℕ, ◌⊎◌, inl, inr, Bool, true, false, List, ◌++◌, refl, sym, ap, subst, arith}
use Rattle.std.specs.Prelude.{Option, None, Some, Result, Ok, Err, IfOk, IfSome, IsTrue}
use Rattle.command_line.proofs.OrderLemmas.{one_request}
use Rattle.command_line.specs.Orders.{Asks, Request, to_solve, to_validate, to_check, to_explain, to_explain_cert}
use Rattle.certificate_definitions.specs.CertificateText.{text_of}
use Rattle.devices.specs.Devices.{IsKept, IsWritten}
use Rattle.devices.specs.Texts.{AreKept}
use Rattle.devices.specs.Written.{AreWritten}
use Rattle.file_answers.specs.SaidOf.{IsCheckLineOf}
use Rattle.devices.specs.declared.device.IoFault.TheVariants as device
use Rattle.file_answers.specs.declared.files.FileFault.TheVariants as refusal
use Rattle.devices.specs.Progress.{AreSaid, Stream, stream}
use Rattle.solver.specs.Said.{HasEnded}
use Rattle.solver.specs.declared.answer.Answer.{Answer}
use Rattle.solver.specs.declared.answer.Answer.TheVariants.{Plan, Unsolvable, Unknown}
use Rattle.devices.proofs.ProgressLemmas.{said_after, said_of_more, none_said}
use Rattle.planner_main.specs.Asked.{Outputs, outputs_of}
use Rattle.printed_answers.specs.AnswerReported as answers
use Rattle.planner_main.specs.Program.{IsReportOn, IsReportedOn, IsReported}
use Rattle.planner_main.specs.Progress.{AsksForProgress, AsksForSearchProgress, Ends, EndsByEnd, EndsFor, HasEndedFor, HasEndedIf, HasSaidEnd, IsProgress, IsProgressOn, IsWritingLine, SaysAfter, SaysIf, RequestsProgress, RequestsSearchProgress, line_if, size_line_for}
use Rattle.printed_answers.specs.Reported.{status_of}
use Rattle.planner_main.specs.Solution.{WritesReport, cert_text, files_for}
use Rattle.planner_main.proofs.ProgramReported.{written_since}
use Rattle.planner_main.specs.declared.failures.Failure.{Failure}
use Rattle.planner_main.specs.declared.failures.Failure.TheVariants as failure
use Rattle.printed_answers.specs.declared.reports.Report.{Report}
use Rattle.printed_answers.specs.declared.reports.Report.TheVariants as report

-- A failure reported is also reported after earlier lines.
pub reported_more : (Says More : List ℕ → Type 0) → ((line : List ℕ) → Says line → More line) → (f : Failure) (status : ℕ) → IsReportedOn f Says status → IsReportedOn f More status
reported_more Says More more (failure.Text (refusal.At file code span)) status (inl (is, line)) = inl (is, more _ line)
reported_more Says More more (failure.Text (refusal.At file code span)) status (inr (is, line)) = inr (is, more _ line)
reported_more Says More more (failure.Text refusal.NoMemory) status (is, line) = (is, more _ line)
reported_more Says More more (failure.Device device.Device) status (is, line) = (is, more _ line)
reported_more Says More more (failure.Device device.NoMemory) status (is, line) = (is, more _ line)

pub after_progress : (IsLine : List ℕ → Type 0) (may_lack_memory : Bool) (failures now_failures failures_after : ℕ) (taken now_taken taken_after : Option (List ℕ))
    → AreSaid IsLine may_lack_memory (stream failures taken) (stream now_failures now_taken) → (f : Failure) (status : ℕ)
    → IsReportedOn f (IsWritten may_lack_memory now_failures failures_after now_taken taken_after) status
    → IsReportedOn f (SaysAfter IsLine may_lack_memory failures failures_after taken taken_after) status
after_progress IsLine may_lack_memory failures now_failures failures_after taken now_taken taken_after said f status reported =
    reported_more (IsWritten may_lack_memory now_failures failures_after now_taken taken_after) (SaysAfter IsLine may_lack_memory failures failures_after taken taken_after)
    (λ line written. (stream now_failures now_taken, said, written)) f status reported

-- a failure has the exit status of neither a plan nor unsolvability
pub no_answer : (Says : List ℕ → Type 0) (f : Failure) (status : ℕ) → IsReportedOn f Says status → (status ≡ 0) ⊎ (status ≡ 10) → ⊥
no_answer Says (failure.Text (refusal.At file code span)) status (inl (is, line)) (inl same) = absurd (omega arith)
no_answer Says (failure.Text (refusal.At file code span)) status (inl (is, line)) (inr same) = absurd (omega arith)
no_answer Says (failure.Text (refusal.At file code span)) status (inr (is, line)) (inl same) = absurd (omega arith)
no_answer Says (failure.Text (refusal.At file code span)) status (inr (is, line)) (inr same) = absurd (omega arith)
no_answer Says (failure.Text refusal.NoMemory) status (is, line) (inl same) = absurd (omega arith)
no_answer Says (failure.Text refusal.NoMemory) status (is, line) (inr same) = absurd (omega arith)
no_answer Says (failure.Device device.Device) status (is, line) (inl same) = absurd (omega arith)
no_answer Says (failure.Device device.Device) status (is, line) (inr same) = absurd (omega arith)
no_answer Says (failure.Device device.NoMemory) status (is, line) (inl same) = absurd (omega arith)
no_answer Says (failure.Device device.NoMemory) status (is, line) (inr same) = absurd (omega arith)

-- ---- which lines

-- there is no line about a file if no file is written
no_line : (r : Report) (json : Bool) (line : List ℕ) → IsWritingLine r (record { json = json; cert = None; plan = None; progress = false }) line → ⊥
no_line r json line (inl (inl (is, named))) = absurd (cc)
no_line r json line (inl (inr is)) = absurd (cc)
no_line r json line (inr (is, named)) = absurd (cc)

-- a line about the written files is one that was asked for
pub written_is_progress : (contents : List ℕ → Option (List ℕ)) (request : Request) (found : Report) → IsReportOn contents request found → (line : List ℕ)
    → IsWritingLine found (outputs_of request) line → IsProgressOn contents request line
written_is_progress contents (to_validate domain problem plan json) found on line is = absurd (no_line found json line is)
written_is_progress contents (to_solve domain problem asked) found on line is = inr (found, on, is)
written_is_progress contents (to_check domain problem cert asked) found on line is = absurd (no_line found asked.json line is)
written_is_progress contents (to_explain domain problem asked) found on line is = absurd (no_line found asked.json line is)
written_is_progress contents (to_explain_cert domain problem cert asked) found on line is = absurd (no_line found asked.json line is)

-- what holds of what was read of a file holds of its contents, if they are known
known_if_kept : (known came : Option (List ℕ)) → IsKept known came → (P : List ℕ → Type 0) → IfSome came P → IfSome known P
known_if_kept None came kept P so = tt
known_if_kept (Some bytes) came kept P so = subst (λ (o : Option (List ℕ)). IfSome o P) kept so

pub known_of_kept : (known came : Option (List ℕ)) → IsKept known came → (domain problem line : List ℕ) → IsCheckLineOf domain problem came line → IsCheckLineOf domain problem known line
known_of_kept known came kept domain problem line (task, is, inl (lines, rest, so, same)) =
    (task, is, inl (lines, rest, known_if_kept known came kept (λ bytes. bytes ≡ text_of lines ++ rest) so, same))
known_of_kept known came kept domain problem line (task, is, inr (text, c, so, is_text, same)) =
    (task, is, inr (text, c, known_if_kept known came kept (λ bytes. bytes ≡ text) so, is_text, same))

-- if there is a line, it was asked for
size_asked : (progress : Bool) (size : Option ℕ) (line : List ℕ) → line_if progress size ≡ Some line → IsTrue progress
size_asked true size line is = search
size_asked false size line is = absurd (cc)

pub request_of_line : (contents : List ℕ → Option (List ℕ)) (request : Request) (line : List ℕ) → IsProgressOn contents request line → RequestsProgress request
request_of_line contents (to_validate domain problem plan json) line is = absurd is
request_of_line contents (to_solve domain problem asked) line (inl (is, on)) = is
request_of_line contents (to_solve domain problem asked) line (inr (found, on, inl (inl (is, named)))) = is
request_of_line contents (to_solve domain problem asked) line (inr (found, on, inl (inr is))) = size_asked asked.progress _ line is
request_of_line contents (to_solve domain problem asked) line (inr (found, on, inr (is, named))) = is
request_of_line contents (to_check domain problem cert asked) line is = is.0
request_of_line contents (to_explain domain problem asked) line is = absurd is
request_of_line contents (to_explain_cert domain problem cert asked) line is = absurd is

module _ (contents : List ℕ → Option (List ℕ)) (words : List (List ℕ)) (request : Request) (asks : Asks words request) (may_lack_memory : Bool) (before after : Stream)
    (said : AreSaid (IsProgressOn contents request) may_lack_memory before after) where
  -- progress of the order is progress for the words that give it
  pub said_of_words : AreSaid (IsProgress contents words) may_lack_memory before after
  said_of_words = said_of_more (λ line is. (request, asks, is)) said

  -- nothing is reported if it is not asked for
  pub quiet_unasked : (AsksForProgress words → ⊥) → after.taken ≡ before.taken
  quiet_unasked unasked =
      ap (λ (s : Stream). s.taken) (none_said (IsProgressOn contents request) may_lack_memory before after (λ line is. unasked (request, asks, request_of_line contents request line is)) said)

-- progress while the result is computed, and then about the files written for it
pub said_of_both : (contents : List ℕ → Option (List ℕ)) (request : Request) (found : Report) → IsReportOn contents request found → (outputs : Outputs) → outputs ≡ outputs_of request
    → (may_lack_memory : Bool) (before now after : Stream)
    → AreSaid (IsProgressOn contents request) may_lack_memory before now → AreSaid (IsWritingLine found outputs) may_lack_memory now after → AreSaid (IsProgressOn contents request) may_lack_memory before after
said_of_both contents request found on outputs same may_lack_memory before now after first then =
    said_after first (said_of_more (λ line is. written_is_progress contents request found on line (subst (λ (o : Outputs). IsWritingLine found o line) same is)) then)

-- ---- the end

ended_of_answer : (may_lack_memory : Bool) (failures : ℕ) (taken : Option (List ℕ)) (a : Answer) (status : ℕ) → HasEnded may_lack_memory failures taken a → status ≡ answers.status_of a
    → (status ≡ 0) ⊎ (status ≡ 10) → EndsByEnd may_lack_memory failures taken
ended_of_answer may_lack_memory failures taken (Plan steps cost cert) status (now, written) is which = (now, _, _, written)
ended_of_answer may_lack_memory failures taken (Unsolvable cert) status (now, written) is which = (now, _, _, written)
ended_of_answer may_lack_memory failures taken (Unknown limit) status ended is (inl same) = absurd (omega arith)
ended_of_answer may_lack_memory failures taken (Unknown limit) status ended is (inr same) = absurd (omega arith)

-- The end of a search, followed by the written certificate, is reported as the exit status implies.
module _ (contents contents_after : List ℕ → Option (List ℕ)) (known may_lack_memory : Bool) (after : Stream) where
  pub ended_by_status : (before : Stream) (request : Request) (found : Report) (status : ℕ) → IsReportOn contents request found
      → HasEndedFor request may_lack_memory before.failures before.taken found
      → (IsTrue known → AreWritten contents contents_after (files_for found (outputs_of request)))
      → SaysIf (size_line_for (outputs_of request).cert (cert_text found) (outputs_of request).progress) may_lack_memory before after
      → status ≡ status_of found → HasSaidEnd contents contents_after known request may_lack_memory after status
  ended_by_status before (to_validate domain problem plan json) found status is ended held sized same = tt
  ended_by_status before (to_solve domain problem asked) found status (s, is, version, on) ended held sized same = λ asks which.
      let answered = ended_of_answer may_lack_memory before.failures before.taken s.answer status (subst (HasEndedIf asked.progress may_lack_memory before.failures before.taken) is ended asks) (same ∙ ap status_of is) which in
      (found, (s, is, version, on), held, (before, answered, sized))
  ended_by_status before (to_check domain problem cert asked) found status is ended held sized same = tt
  ended_by_status before (to_explain domain problem asked) found status is ended held sized same = tt
  ended_by_status before (to_explain_cert domain problem cert asked) found status is ended held sized same = tt

  end_requested : (request : Request) (status : ℕ) → HasSaidEnd contents contents_after known request may_lack_memory after status → RequestsSearchProgress request → (status ≡ 0) ⊎ (status ≡ 10)
      → EndsFor contents contents_after known request may_lack_memory after
  end_requested (to_validate domain problem plan json) status ended needs which = absurd needs
  end_requested (to_solve domain problem asked) status ended needs which = ended needs which
  end_requested (to_check domain problem cert asked) status ended needs which = absurd needs
  end_requested (to_explain domain problem asked) status ended needs which = absurd needs
  end_requested (to_explain_cert domain problem cert asked) status ended needs which = absurd needs

  pub end_of_words : (words : List (List ℕ)) (request : Request) → Asks words request → (status : ℕ) → HasSaidEnd contents contents_after known request may_lack_memory after status
      → AsksForSearchProgress words → (status ≡ 0) ⊎ (status ≡ 10) → Ends contents contents_after known words may_lack_memory after
  end_of_words words request asks status ended (other, others, needs) which =
      (request, asks, end_requested request status ended (subst RequestsSearchProgress (one_request words other request others asks) needs) which)

-- The same once everything is written.
pub ended_written : (may_lack_memory : Bool) (before after : Stream) (contents : List ℕ → Option (List ℕ)) (request : Request) (found : Report) → IsReportOn contents request found
    → HasEndedFor request may_lack_memory before.failures before.taken found
    → (known : Bool) (now files_after : List ℕ → Option (List ℕ)) → AreKept contents now → (out out_after : Option (List ℕ)) (outputs : Outputs) → outputs ≡ outputs_of request
    → (result : Result ℕ Failure) → IfOk result (IsReported (WritesReport found outputs) known now files_after out out_after)
    → IfOk result (λ _. SaysIf (size_line_for outputs.cert (cert_text found) outputs.progress) may_lack_memory before after)
    → IfOk result (HasSaidEnd contents files_after known request may_lack_memory after)
ended_written may_lack_memory before after contents request found is ended known now files_after kept out out_after outputs asked (Ok status) (text, written, (is_text, same, files), appended, held) sized =
    ended_by_status contents files_after known may_lack_memory after before request found status is ended
    (λ is_known. subst (λ (o : Outputs). AreWritten contents files_after (files_for found o)) asked
    (subst (AreWritten contents files_after) files (written_since contents now files_after kept written (held is_known))))
    (subst (λ (o : Outputs). SaysIf (size_line_for o.cert (cert_text found) o.progress) may_lack_memory before after) asked sized) same
ended_written may_lack_memory before after contents request found is ended known now files_after kept out out_after outputs asked (Err failure) said sized = tt
