-- The progress reports on standard error, with `--progress`.
use Rattle.std.specs.Prelude.{◌≡◌, ℕ, ◌⊎◌, ◌-◌, ◌^◌, min, Bool, if◌then◌else◌, IsTrue, List, ◌++◌, length, codes, Option, None, Some, ⊤}
use Rattle.std.specs.Fmt.{decimal}
use Rattle.std.specs.Option.{option_map}
use Rattle.command_line.specs.Orders.{Asks, Asked, Request, to_solve, to_validate, to_check, to_explain, to_explain_cert}
use Rattle.devices.specs.Devices.{IsWritten}
use Rattle.devices.specs.Written.{AreWritten}
use Rattle.file_answers.specs.SaidOf.{IsCheckLineOf, IsTrueLineOf}
use Rattle.devices.specs.Progress.{AreSaid, Stream, stream}
use Rattle.solver.specs.Said.{HasEnded, line_of}
use Rattle.solver.specs.declared.reports.Report.TheVariants.{End}
use Rattle.planner_main.specs.Asked.{Outputs, outputs_of}
use Rattle.planner_main.specs.Program.{IsReportOn, OnTwo}
use Rattle.planner_main.specs.Solution.{cert_text, files_for}
use Rattle.printed_answers.specs.declared.reports.Report.{Report}
use Rattle.printed_answers.specs.declared.reports.Report.TheVariants as report

-- ---- the lines

-- a line of a search within these limits, true of the task of two files
abbrev pub IsSearchLine : (List ℕ → Option (List ℕ)) → (domain problem : List ℕ) → (seconds : Option ℕ) → (states instances : ℕ) → (progress : Bool) → List ℕ → Type 0
IsSearchLine contents domain problem seconds states instances progress line =
    IsTrue progress × OnTwo contents domain problem (λ d p. IsTrueLineOf d p seconds states instances line)

-- the same for a check, for the task of two files and the text of a third
abbrev pub IsCheckingLine : (List ℕ → Option (List ℕ)) → (domain problem cert : List ℕ) → (progress : Bool) → List ℕ → Type 0
IsCheckingLine contents domain problem cert progress line = IsTrue progress × OnTwo contents domain problem (λ d p. IsCheckLineOf d p (contents cert) line)

-- the line for a failed file, if one is named: the rest of the line is its name
abbrev pub failed_line : (name : List ℕ) → List ℕ
failed_line name = codes "progress=failed file=" ++ (name ++ codes "\n")

abbrev pub IsFailedLineOf : (progress : Bool) → (name : Option (List ℕ)) → List ℕ → Type 0
IsFailedLineOf progress named line = IsTrue progress × ((name : List ℕ) × (named ≡ Some name) × (line ≡ failed_line name))

-- the length of a text in bytes, saturating at 18446744073709551615
abbrev pub byte_count : List ℕ → ℕ
byte_count text = min (length text) (2 ^ 64 - 1)

-- the number of bytes written to a file, if one is given and there is a text for it
abbrev pub size_in : (named text : Option (List ℕ)) → Option ℕ
size_in None text = None
size_in (Some name) None = None
size_in (Some name) (Some text) = Some (byte_count text)

-- the line for a written certificate: its size
abbrev pub size_line : ℕ → List ℕ
size_line size = codes "progress=certificate bytes=" ++ (decimal size ++ codes "\n")

-- that line, if progress is asked for
abbrev pub line_if : (progress : Bool) → Option ℕ → Option (List ℕ)
line_if progress size = if progress then option_map size_line size else None

abbrev pub size_line_for : (named text : Option (List ℕ)) → (progress : Bool) → Option (List ℕ)
size_line_for named text progress = line_if progress (size_in named text)

-- a line about a certificate: that its file failed, or its size
abbrev pub IsCertificateLine : (progress : Bool) → (named text : Option (List ℕ)) → List ℕ → Type 0
IsCertificateLine progress named text line = IsFailedLineOf progress named line ⊎ (size_line_for named text progress ≡ Some line)

-- a line about the files written for a result
abbrev pub IsWritingLine : Report → Outputs → List ℕ → Type 0
IsWritingLine r outputs line = IsCertificateLine outputs.progress outputs.cert (cert_text r) line ⊎ IsFailedLineOf outputs.progress outputs.plan line

-- a line about the files written for a result that is correct for the texts of the input files
abbrev pub IsWritingLineOn : (List ℕ → Option (List ℕ)) → Request → List ℕ → Type 0
IsWritingLineOn contents request line = (found : Report) × IsReportOn contents request found × IsWritingLine found (outputs_of request) line

-- An order reports this line as progress: `solve`, if progress is asked for, a line that is true of the task, or that one of its
-- output files failed, or the size of its certificate; and `check` a line that is true of the certificate.
abbrev pub IsProgressOn : (List ℕ → Option (List ℕ)) → Request → List ℕ → Type 0
IsProgressOn contents (to_validate domain problem plan json) line = ⊥
IsProgressOn contents (to_solve domain problem asked) line =
    IsSearchLine contents domain problem asked.seconds asked.states asked.instances asked.progress line ⊎ IsWritingLineOn contents (to_solve domain problem asked) line
IsProgressOn contents (to_check domain problem cert asked) line = IsCheckingLine contents domain problem cert asked.progress line
IsProgressOn contents (to_explain domain problem asked) line = ⊥
IsProgressOn contents (to_explain_cert domain problem cert asked) line = ⊥

abbrev pub IsProgress : (List ℕ → Option (List ℕ)) → List (List ℕ) → List ℕ → Type 0
IsProgress contents words line = (request : Request) × Asks words request × IsProgressOn contents request line

-- ---- whether progress is asked for

abbrev pub RequestsProgress : Request → Type 0
RequestsProgress (to_validate domain problem plan json) = ⊥
RequestsProgress (to_solve domain problem asked) = IsTrue asked.progress
RequestsProgress (to_check domain problem cert asked) = IsTrue asked.progress
RequestsProgress (to_explain domain problem asked) = ⊥
RequestsProgress (to_explain_cert domain problem cert asked) = ⊥

abbrev pub AsksForProgress : List (List ℕ) → Type 0
AsksForProgress words = (request : Request) × Asks words request × RequestsProgress request

-- and of a search
abbrev pub RequestsSearchProgress : Request → Type 0
RequestsSearchProgress (to_validate domain problem plan json) = ⊥
RequestsSearchProgress (to_solve domain problem asked) = IsTrue asked.progress
RequestsSearchProgress (to_check domain problem cert asked) = ⊥
RequestsSearchProgress (to_explain domain problem asked) = ⊥
RequestsSearchProgress (to_explain_cert domain problem cert asked) = ⊥

abbrev pub AsksForSearchProgress : List (List ℕ) → Type 0
AsksForSearchProgress words = (request : Request) × Asks words request × RequestsSearchProgress request

-- ---- standard error then

-- Such lines were written, followed by these bytes: whole, or a prefix of them if the stream counted a failure or may run out of
-- memory.
abbrev pub SaysAfter : (IsLine : List ℕ → Type 0) → (may_lack_memory : Bool) → (failures failures_after : ℕ) → (before after : Option (List ℕ)) → List ℕ → Type 0
SaysAfter IsLine may_lack_memory failures failures_after before after bytes =
    (now : Stream) × AreSaid IsLine may_lack_memory (stream failures before) now × IsWritten may_lack_memory now.failures failures_after now.taken after bytes

-- the last line is that of the end of a search
abbrev pub EndsByEnd : (may_lack_memory : Bool) → (failures : ℕ) → (taken : Option (List ℕ)) → Type 0
EndsByEnd may_lack_memory failures taken =
    (now : Stream) × (listed : ℕ) × (expanded : ℕ) × IsWritten may_lack_memory now.failures failures now.taken taken (line_of (End listed expanded))

-- this line was written, if there is one, otherwise nothing
abbrev pub SaysIf : Option (List ℕ) → (may_lack_memory : Bool) → (before after : Stream) → Type 0
SaysIf None may_lack_memory before after = after ≡ before
SaysIf (Some line) may_lack_memory before after = IsWritten may_lack_memory before.failures after.failures before.taken after.taken line

-- the last line is that of the end of a search; or if this line is given, it is the last, and the one before is that of the end
abbrev pub EndsBy : Option (List ℕ) → (may_lack_memory : Bool) → (after : Stream) → Type 0
EndsBy line may_lack_memory after = (now : Stream) × EndsByEnd may_lack_memory now.failures now.taken × SaysIf line may_lack_memory now after

-- The same for a correct result of an order: if the certificate is written to a file, the last line has its size. The files hold
-- what is written, if they are known.
abbrev pub EndsFor : (contents contents_after : List ℕ → Option (List ℕ)) → (known : Bool) → Request → (may_lack_memory : Bool) → (after : Stream) → Type 0
EndsFor contents contents_after known request may_lack_memory after =
    (found : Report) × IsReportOn contents request found × (IsTrue known → AreWritten contents contents_after (files_for found (outputs_of request)))
    × EndsBy (size_line_for (outputs_of request).cert (cert_text found) (outputs_of request).progress) may_lack_memory after

abbrev pub Ends : (contents contents_after : List ℕ → Option (List ℕ)) → (known : Bool) → List (List ℕ) → (may_lack_memory : Bool) → (after : Stream) → Type 0
Ends contents contents_after known words may_lack_memory after = (request : Request) × Asks words request × EndsFor contents contents_after known request may_lack_memory after

-- If progress is asked for, the last line describes the listing of the answer's certificate, if it has one.
abbrev pub HasEndedIf : (progress may_lack_memory : Bool) → (failures : ℕ) → (taken : Option (List ℕ)) → Report → Type 0
HasEndedIf progress may_lack_memory failures taken (report.Solve solved) = IsTrue progress → HasEnded may_lack_memory failures taken solved.answer
HasEndedIf progress may_lack_memory failures taken (report.Validate verdict) = ⊤
HasEndedIf progress may_lack_memory failures taken (report.Check checked) = ⊤
HasEndedIf progress may_lack_memory failures taken (report.Explain e) = ⊤
HasEndedIf progress may_lack_memory failures taken (report.ExplainCheck e) = ⊤

abbrev pub HasEndedFor : Request → (may_lack_memory : Bool) → (failures : ℕ) → (taken : Option (List ℕ)) → Report → Type 0
HasEndedFor (to_validate domain problem plan json) may_lack_memory failures taken found = ⊤
HasEndedFor (to_solve domain problem asked) may_lack_memory failures taken found = HasEndedIf asked.progress may_lack_memory failures taken found
HasEndedFor (to_check domain problem cert asked) may_lack_memory failures taken found = ⊤
HasEndedFor (to_explain domain problem asked) may_lack_memory failures taken found = ⊤
HasEndedFor (to_explain_cert domain problem cert asked) may_lack_memory failures taken found = ⊤

-- the report of the end, by exit status: an answer with a plan or without any plan has a certificate
abbrev pub HasSaidEnd : (contents contents_after : List ℕ → Option (List ℕ)) → (known : Bool) → Request → (may_lack_memory : Bool) → (after : Stream) → (status : ℕ) → Type 0
HasSaidEnd contents contents_after known (to_validate domain problem plan json) may_lack_memory after status = ⊤
HasSaidEnd contents contents_after known (to_solve domain problem asked) may_lack_memory after status =
    IsTrue asked.progress → (status ≡ 0) ⊎ (status ≡ 10) → EndsFor contents contents_after known (to_solve domain problem asked) may_lack_memory after
HasSaidEnd contents contents_after known (to_check domain problem cert asked) may_lack_memory after status = ⊤
HasSaidEnd contents contents_after known (to_explain domain problem asked) may_lack_memory after status = ⊤
HasSaidEnd contents contents_after known (to_explain_cert domain problem cert asked) may_lack_memory after status = ⊤
