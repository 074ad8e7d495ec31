-- The behaviour of the program: the order given by its words, the texts of its files, what it prints, and its exit status.
use Rattle.std.specs.Prelude.{◌≡◌, ℕ, ◌⊎◌, Bool, false, List, [], ◌∷◌, ◌++◌, Option, None, Some, IfOk, IfErr, IfSome, IsTrue, Result, Ok, Err}
use Rattle.std.specs.Io.KnownBytes.{Appends}
use Rattle.solver.specs.Solver.{HasVersionUpTo, IsTrueAnswer}
use Rattle.task.specs.Task.{task_of}
use Rattle.validator.specs.declared.verdict.Verdict.{Verdict}
use Rattle.validator.specs.Verdict.{verdict_of}
use Rattle.file_answers.specs.declared.checking.Checked.{Checked}
use Rattle.file_answers.specs.declared.solving.Solved.{Solved}
use Rattle.printed_answers.specs.declared.explained_check.ExplainedCheck.{ExplainedCheck}
use Rattle.printed_answers.specs.declared.reports.Report.{Report}
use Rattle.printed_answers.specs.declared.reports.Report.TheVariants as report
use Rattle.planner_main.specs.declared.failures.Failure.{Failure}
use Rattle.planner_main.specs.declared.failures.Failure.TheVariants as failure
use Rattle.file_answers.specs.declared.files.FileFault.TheVariants as refusal
use Rattle.devices.specs.declared.device.IoFault as device_fault
use Rattle.devices.specs.declared.device.IoFault.TheVariants as device
use Rattle.devices.specs.Devices.{AppendsBeginning, one_more}
use Rattle.planner_main.specs.Failures.{line_of_fault, device_line, no_memory_line, nothing_done_line}
use Rattle.file_answers.specs.Files.{fault_at, reported_in}
use Rattle.command_line.specs.Orders.{Asks, Request, to_solve, to_validate, to_check, to_explain, to_explain_cert}
use Rattle.command_line.specs.View.{IsOfWords}
use Rattle.command_line.specs.declared.fault.WordsFault.{WordsFault}
use Rattle.file_answers.specs.Checked.{IsTrueCheck}
use Rattle.file_answers.specs.Inputs.{IsGiven, IsInputFault}
use Rattle.printed_answers.specs.CheckReported.{IsReportedRefusal}
use Rattle.planner_main.specs.Asked.{outputs_of}
use Rattle.file_answers.specs.declared.explanation.Explanation.{Explanation}
use Rattle.file_answers.specs.Explanations.{IsTrueOf}
use Rattle.file_answers.specs.Notes.{AreNoted}
use Rattle.file_answers.specs.ExplanationLines.{Files, IsSaidOf, named_as}
use Rattle.devices.specs.Texts.{AreKept, IsText}
use Rattle.devices.specs.Written.{NamedText, AreWritten, AreWrittenPartly}
use Rattle.planner_main.specs.Solution.{WritesReport}
use Rattle.cert_checker.specs.declared.refusal.Refusal.{Refusal}
use Rattle.cert_checker.specs.declared.checker.Accepted.{Accepted}
use Rattle.model.specs.Task.{Task, Instance}
use Rattle.model.specs.Files.{FileFault, IsTaskOf, IsTaskFault, IsVerdictOf, IsFileFault}

-- the name is one of these
abbrev pub IsOneOf : List (List ℕ) → List ℕ → Type 0
IsOneOf [] name = ⊥
IsOneOf (first ∷ rest) name = (name ≡ first) ⊎ IsOneOf rest name

-- the file with this name, if one is given
abbrev pub if_named : Option (List ℕ) → List (List ℕ)
if_named None = []
if_named (Some name) = name ∷ []

-- the names of the input files
abbrev pub inputs_of : Request → List (List ℕ)
inputs_of (to_validate domain problem plan json) = domain ∷ problem ∷ plan ∷ []
inputs_of (to_solve domain problem asked) = domain ∷ problem ∷ []
inputs_of (to_check domain problem cert asked) = domain ∷ problem ∷ cert ∷ if_named asked.plan
inputs_of (to_explain domain problem asked) = domain ∷ problem ∷ if_named asked.plan
inputs_of (to_explain_cert domain problem cert asked) = domain ∷ problem ∷ cert ∷ if_named asked.plan

-- the names of the files that are read whole: all but that of the certificate
abbrev pub texts_of : Request → List (List ℕ)
texts_of (to_validate domain problem plan json) = domain ∷ problem ∷ plan ∷ []
texts_of (to_solve domain problem asked) = domain ∷ problem ∷ []
texts_of (to_check domain problem cert asked) = domain ∷ problem ∷ if_named asked.plan
texts_of (to_explain domain problem asked) = domain ∷ problem ∷ if_named asked.plan
texts_of (to_explain_cert domain problem cert asked) = domain ∷ problem ∷ if_named asked.plan

-- The words are a command that reads the file with this name; and that reads its text whole.
abbrev pub NamesInput : List (List ℕ) → List ℕ → Type 0
NamesInput words name = (request : Request) × Asks words request × IsOneOf (inputs_of request) name

abbrev pub NamesText : List (List ℕ) → List ℕ → Type 0
NamesText words name = (request : Request) × Asks words request × IsOneOf (texts_of request) name

-- this holds for the texts of a domain file and a problem file
abbrev pub OnTwo : (List ℕ → Option (List ℕ)) → (domain problem : List ℕ) → (List ℕ → List ℕ → Type 0) → Type 0
OnTwo contents domain problem Holds =
    (d : List ℕ) × (p : List ℕ) × IsText contents domain d × IsText contents problem p × Holds d p

-- this holds for the texts of a domain file, a problem file and a plan file
abbrev pub OnThree : (List ℕ → Option (List ℕ)) → (domain problem plan : List ℕ) → (List ℕ → List ℕ → List ℕ → Type 0) → Type 0
OnThree contents domain problem plan Holds =
    (d : List ℕ) × (p : List ℕ) × (l : List ℕ) × IsText contents domain d × IsText contents problem p × IsText contents plan l × Holds d p l

-- the text of the file with this name; none if no file is given
abbrev pub IsTextIfNamed : (List ℕ → Option (List ℕ)) → (name text : Option (List ℕ)) → Type 0
IsTextIfNamed contents None None = Unit {0}
IsTextIfNamed contents None (Some text) = ⊥
IsTextIfNamed contents (Some name) None = ⊥
IsTextIfNamed contents (Some name) (Some text) = IsText contents name text

-- this holds for the texts of a domain file, a problem file and a plan file, if one is given
abbrev pub OnInputs : (List ℕ → Option (List ℕ)) → (domain problem : List ℕ) → (plan : Option (List ℕ)) → (List ℕ → List ℕ → Option (List ℕ) → Type 0) → Type 0
OnInputs contents domain problem plan Holds =
    (d : List ℕ) × (p : List ℕ) × (l : Option (List ℕ)) × IsText contents domain d × IsText contents problem p × IsTextIfNamed contents plan l × Holds d p l

-- The result is correct for the texts of these files: it is the verdict on a plan,
abbrev pub IsVerdictOn : (List ℕ → Option (List ℕ)) → (domain problem plan : List ℕ) → Report → Type 0
IsVerdictOn contents domain problem plan found =
    (v : Verdict) × (found ≡ report.Validate v) × OnThree contents domain problem plan (λ d p l. IsVerdictOf d p l (verdict_of v))

-- or an answer to a task within these limits, whose certificate is of at most this version,
abbrev pub IsSolutionOn : (List ℕ → Option (List ℕ)) → (domain problem : List ℕ) → (seconds : Option ℕ) → (states instances version : ℕ) → Report → Type 0
IsSolutionOn contents domain problem seconds states instances version found =
    (s : Solved) × (found ≡ report.Solve s) × HasVersionUpTo version s.answer
    × OnTwo contents domain problem (λ d p. IsTaskOf d p (task_of s.task) × IsTrueAnswer (task_of s.task) seconds states instances s.answer)

-- or the checker's answer to a certificate, for the task of two texts and the plan of a third, if one is given. This much is
-- known of the certificate's text: if anything, all of it.
abbrev pub IsCheckedIn : (known : Option (List ℕ)) → (domain problem : List ℕ) → (plan : Option (List ℕ)) → (most : ℕ) → Task → Result Accepted Refusal → Type 0
IsCheckedIn known domain problem plan most task answer =
    (cert : List ℕ) × (steps : Option (List Instance)) × IfSome known (λ bytes. cert ≡ bytes) × IsTaskOf domain problem task
    × IsGiven task plan steps × IsTrueCheck task cert steps most answer × IsReportedRefusal answer

abbrev pub IsCheckOn : (List ℕ → Option (List ℕ)) → (domain problem cert : List ℕ) → (plan : Option (List ℕ)) → (most : ℕ) → Report → Type 0
IsCheckOn contents domain problem cert plan most found =
    (c : Checked) × (found ≡ report.Check c)
    × OnInputs contents domain problem plan (λ d p l. IsCheckedIn (contents cert) d p l most (task_of c.task) c.answer)

-- the files with these names and their texts: a domain, a problem, and a plan, if one is given
abbrev pub named_inputs : (domain problem : List ℕ) → (plan : Option (List ℕ)) → (d p : List ℕ) → (l : Option (List ℕ)) → Files
named_inputs domain problem plan d p l =
    record { domain = record { name = domain; text = d }; problem = record { name = problem; text = p }; plan = named_as plan l }

-- or the explanation of two texts, and of the plan of a third, if one is given: it is correct, its lines and its location state it, and
-- its notes are those on the task.
abbrev pub IsExplanationOn : (List ℕ → Option (List ℕ)) → (domain problem : List ℕ) → (plan : Option (List ℕ)) → (traced : Bool) → (most : ℕ) → Report → Type 0
IsExplanationOn contents domain problem plan traced most found =
    (e : Explanation) × (found ≡ report.Explain e)
    × OnInputs contents domain problem plan (λ d p l. IsTrueOf d p l most e.subject × IsSaidOf traced (named_inputs domain problem plan d p l) e
    × AreNoted d p most e)

-- or the checker's answer with words beside it,
abbrev pub IsWordedCheckOn : (List ℕ → Option (List ℕ)) → (domain problem cert : List ℕ) → (plan : Option (List ℕ)) → (most : ℕ) → Report → Type 0
IsWordedCheckOn contents domain problem cert plan most found =
    (e : ExplainedCheck) × (found ≡ report.ExplainCheck e)
    × OnInputs contents domain problem plan (λ d p l. IsCheckedIn (contents cert) d p l most (task_of e.checked.task) e.checked.answer)

-- or, if a text beside the certificate is refused, its explanation.
abbrev pub IsCertExplanationOn : (List ℕ → Option (List ℕ)) → (domain problem cert : List ℕ) → (plan : Option (List ℕ)) → (most : ℕ) → Report → Type 0
IsCertExplanationOn contents domain problem cert plan most found =
    IsWordedCheckOn contents domain problem cert plan most found
    ⊎ (((fault : FileFault) × OnInputs contents domain problem plan (λ d p l. IsInputFault d p l fault))
    × IsExplanationOn contents domain problem plan false most found)

-- the result is the one asked for, and correct
abbrev pub IsReportOn : (List ℕ → Option (List ℕ)) → Request → Report → Type 0
IsReportOn contents (to_validate domain problem plan json) = IsVerdictOn contents domain problem plan
IsReportOn contents (to_solve domain problem asked) = IsSolutionOn contents domain problem asked.seconds asked.states asked.instances asked.cert_version
IsReportOn contents (to_check domain problem cert asked) = IsCheckOn contents domain problem cert asked.plan asked.instances
IsReportOn contents (to_explain domain problem asked) = IsExplanationOn contents domain problem asked.plan asked.trace asked.instances
IsReportOn contents (to_explain_cert domain problem cert asked) = IsCertExplanationOn contents domain problem cert asked.plan asked.instances

-- This text, with this exit status and the files written before it, states a result that is correct for the texts of the files,
-- as the order asks; and as the words ask.
abbrev pub IsAnswerTo : (List ℕ → Option (List ℕ)) → Request → (text : List ℕ) → (status : ℕ) → List NamedText → Type 0
IsAnswerTo contents request text status written =
    (found : Report) × IsReportOn contents request found × WritesReport found (outputs_of request) text status written

abbrev pub IsAnswer : (List ℕ → Option (List ℕ)) → List (List ℕ) → (text : List ℕ) → (status : ℕ) → List NamedText → Type 0
IsAnswer contents words text status written = (request : Request) × Asks words request × IsAnswerTo contents request text status written

-- A correct answer is printed: its files hold their texts, if files are known, and standard output has grown by its text.
abbrev pub IsReported : (IsTrueText : List ℕ → ℕ → List NamedText → Type 0) → (known : Bool)
    → (files files_after : List ℕ → Option (List ℕ)) → (out out_after : Option (List ℕ)) → ℕ → Type 0
IsReported IsTrueText known files files_after out out_after status =
    (text : List ℕ) × (written : List NamedText) × IsTrueText text status written × Appends out out_after text
    × (IsTrue known → AreWritten files files_after written)

-- A correct answer is partly printed. Nothing was written; or some of its files are, the next one partly, and nothing of standard
-- output; or its files are written, and standard output took a prefix of the text.
pub data IsReportedPartly (IsTrueText : List ℕ → ℕ → List NamedText → Type 0) (known : Bool)
    (files files_after : List ℕ → Option (List ℕ)) (out out_after : Option (List ℕ)) : Type 0 where
  nothing : out_after ≡ out → AreKept files files_after → IsReportedPartly IsTrueText known files files_after out out_after
  in_a_file : (text : List ℕ) (status : ℕ) (done rest : List NamedText) (next : NamedText) → IsTrueText text status (done ++ next ∷ rest)
      → out_after ≡ out → (IsTrue known → AreWrittenPartly files files_after done next)
      → IsReportedPartly IsTrueText known files files_after out out_after
  on_the_output : (text : List ℕ) (status : ℕ) (written : List NamedText) → IsTrueText text status written → AppendsBeginning out out_after text
      → (IsTrue known → AreWritten files files_after written) → IsReportedPartly IsTrueText known files files_after out out_after

-- the order given by the words is carried out, with whole or partial output
abbrev pub Reports : List (List ℕ) → (known : Bool) → (files files_after : List ℕ → Option (List ℕ)) → (out out_after : Option (List ℕ)) → ℕ → Type 0
Reports words known files files_after = IsReported (IsAnswer files words) known files files_after

abbrev pub ReportsPartly : List (List ℕ) → (known : Bool) → (files files_after : List ℕ → Option (List ℕ)) → (out out_after : Option (List ℕ)) → Type 0
ReportsPartly words known files files_after = IsReportedPartly (IsAnswer files words) known files files_after

-- The texts of the named files are refused, and this is the first fault. For `explain` that is the answer.
abbrev pub IsFaultFor : (List ℕ → Option (List ℕ)) → Request → FileFault → Type 0
IsFaultFor contents (to_validate domain problem plan json) fault = OnThree contents domain problem plan (λ d p l. IsFileFault d p l fault)
IsFaultFor contents (to_solve domain problem asked) fault = OnTwo contents domain problem (λ d p. IsTaskFault d p fault)
IsFaultFor contents (to_check domain problem cert asked) fault = OnInputs contents domain problem asked.plan (λ d p l. IsInputFault d p l fault)
IsFaultFor contents (to_explain domain problem asked) fault = ⊥
IsFaultFor contents (to_explain_cert domain problem cert asked) fault = ⊥

-- The texts of the files that the words name are refused, and this is the first fault.
abbrev pub IsRefusedFor : (List ℕ → Option (List ℕ)) → List (List ℕ) → FileFault → Type 0
IsRefusedFor contents words fault = (request : Request) × Asks words request × IsFaultFor contents request fault

-- The texts are refused: standard output and the files are unchanged, and standard error has the line of the fault.
abbrev pub Refuses : List (List ℕ) → (files files_after : List ℕ → Option (List ℕ)) → (out out_after : Option (List ℕ)) → (Says : List ℕ → Type 0) → Type 0
Refuses words files files_after out out_after Says =
    (fault : FileFault) × IsRefusedFor files words fault × (out_after ≡ out) × AreKept files files_after × Says (line_of_fault fault)

-- a failure of the files or of standard output was counted
abbrev pub HasFailed : (files files_after out out_after : ℕ) → Type 0
HasFailed files files_after out out_after = (files_after ≡ one_more files) ⊎ (out_after ≡ one_more out)

-- no failure of either was counted
abbrev pub HasNotFailed : (files files_after out out_after : ℕ) → Type 0
HasNotFailed files files_after out out_after = (files_after ≡ files) × (out_after ≡ out)

-- the order is carried out, with whole or partial output
abbrev pub ReportsFor : Request → (known : Bool) → (files files_after : List ℕ → Option (List ℕ)) → (out out_after : Option (List ℕ)) → ℕ → Type 0
ReportsFor request known files files_after = IsReported (IsAnswerTo files request) known files files_after

abbrev pub ReportsPartlyFor : Request → (known : Bool) → (files files_after : List ℕ → Option (List ℕ)) → (out out_after : Option (List ℕ)) → Type 0
ReportsPartlyFor request known files files_after = IsReportedPartly (IsAnswerTo files request) known files files_after

-- the fault of a text in the failure; None for a device or memory
abbrev pub fault_in : Failure → Option FileFault
fault_in (failure.Text fault) = reported_in fault
fault_in (failure.Device fault) = None

-- the failure of a write
abbrev pub of_device : device_fault.IoFault → Failure
of_device fault = failure.Device fault

-- the failure of a device
abbrev pub device_failure : Failure
device_failure = of_device device.Device

-- A device failure counts as one failure, any other as none: of the files, and of the files or standard output.
abbrev pub CountsFailure : (before after : ℕ) → Failure → Type 0
CountsFailure before after (failure.Text fault) = after ≡ before
CountsFailure before after (failure.Device device.Device) = after ≡ one_more before
CountsFailure before after (failure.Device device.NoMemory) = after ≡ before

abbrev pub CountsEither : (files files_after out out_after : ℕ) → Failure → Type 0
CountsEither files files_after out out_after (failure.Text fault) = HasNotFailed files files_after out out_after
CountsEither files files_after out out_after (failure.Device device.Device) = HasFailed files files_after out out_after
CountsEither files files_after out out_after (failure.Device device.NoMemory) = HasNotFailed files files_after out out_after

-- A failure is reported: its line is printed, and the exit status is 20 for a refused text, 21 for a device and 22 for memory. If
-- there is no memory for the line of a fault, that failure is reported instead.
abbrev pub IsReportedOn : Failure → (Says : List ℕ → Type 0) → ℕ → Type 0
IsReportedOn (failure.Text (refusal.At file code span)) Says status =
    ((status ≡ 20) × Says (line_of_fault (fault_at file code span))) ⊎ ((status ≡ 22) × Says no_memory_line)
IsReportedOn (failure.Text refusal.NoMemory) Says status = (status ≡ 22) × Says no_memory_line
IsReportedOn (failure.Device device.Device) Says status = (status ≡ 21) × Says device_line
IsReportedOn (failure.Device device.NoMemory) Says status = (status ≡ 22) × Says no_memory_line

-- What is wrong with the words is printed, or the help that they ask for, followed by the line that nothing was done.
abbrev pub SaysOfWords : (Says : List ℕ → Type 0) → Type 0
SaysOfWords Says = (text : List ℕ) × Says (text ++ nothing_done_line)

-- Words that are not an order are reported with exit status 2 if they are not a command, and with 22 if an allocation failed.
abbrev pub IsReportedOfWords : WordsFault → (Says : List ℕ → Type 0) → ℕ → Type 0
IsReportedOfWords fault Says status =
    ((status ≡ 2) × IsOfWords fault × SaysOfWords Says) ⊎ ((status ≡ 22) × Says no_memory_line)

-- there is no answer, and no fault of a text is reported
abbrev pub IsUnread : {T : Type 0} → Result T Failure → Type 0
IsUnread (Ok said) = ⊥
IsUnread (Err failure) = fault_in failure ≡ None

-- The result is correct for these files, or the fault is the first of their texts; if an input file is missing or a text cannot
-- be read, there is neither.
pub record IsFound (contents : List ℕ → Option (List ℕ)) (is_missing is_unreadable : List ℕ → Bool) (request : Request) (result : Result Report Failure) : Type 0 where
  pub report : IfOk result (IsReportOn contents request)
  pub refused : IfErr result (λ failure. IfSome (fault_in failure) (IsFaultFor contents request))
  pub unread : (name : List ℕ) → IsOneOf (inputs_of request) name → IsTrue (is_missing name) → IsUnread result
  pub unreadable : (name : List ℕ) → IsOneOf (texts_of request) name → IsTrue (is_unreadable name) → IsUnread result
