-- The faults of files, in the model's terms.
use Rattle.std.specs.Prelude.{ℕ, List, Option, None, Some}
use Rattle.std.specs.Borrow.{Bor}
use Rattle.std.specs.Option.{option_map}
use Rattle.faults.specs.Fault.{number_of}
use Rattle.faults.specs.declared.code.Code.{Code}
use Rattle.faults.specs.declared.refused.Span.{Span}
use Rattle.faults.specs.declared.refused.Refused.TheVariants as refused
use Rattle.typing.specs.Task.{TaskFault, file_of}
use Rattle.explain_hints.specs.declared.texts.File.{File}
use Rattle.explain_hints.specs.Files.{file_view}
use Rattle.file_answers.specs.declared.files.FileFault.{FileFault}
use Rattle.file_answers.specs.declared.files.FileFault.TheVariants.{At, NoMemory}
use Rattle.model.specs.Fault as reported
use Rattle.model.specs.Files as model

-- the fault with this code at this place of this file
abbrev pub fault_at : File → Code → Span → model.FileFault
fault_at file code span = record { file = file_view file; fault = record { code = number_of code; span = record { start = span.start; end = span.end } } }

-- the fault that is reported for the files; None for running out of memory
abbrev pub reported_in : FileFault → Option model.FileFault
reported_in (At file code span) = Some (fault_at file code span)
reported_in NoMemory = None

-- the fault reported for this file
abbrev pub in_file : File → Option reported.Fault → Option model.FileFault
in_file file = option_map (λ (fault : reported.Fault). record { file = file_view file; fault = fault })

-- the fault of a pair, as a fault of a file
abbrev pub reported_of_pair : TaskFault → Option model.FileFault
reported_of_pair (refused.At r) =
    Some (record { file = model.of_task (file_of r.file); fault = record { code = number_of r.code; span = record { start = r.span.start; end = r.span.end } } })
reported_of_pair refused.NoMemory = None

-- the bytes of a borrowed text, if there is one
abbrev pub text_in : Option (Bor (List ℕ)) → Option (List ℕ)
text_in = option_map (λ (text : Bor (List ℕ)). text.now)
