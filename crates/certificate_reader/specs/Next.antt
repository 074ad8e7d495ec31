-- The result for the next line of a text, at a stage.
use Rattle.std.specs.Prelude.{◌≡◌, ◌≢◌, ℕ, ◌≤◌, Bool, true, false, List, [], ◌++◌, Option, Some, Result, Ok, Err}
use Rattle.std.specs.List.{position}
use Rattle.std.specs.Io.KnownBytes.{Consumes, IsAtEnd, Keeps}
use Rattle.devices.specs.Devices.{one_more}
use Rattle.devices.specs.declared.device.IoFault.{IoFault}
use Rattle.devices.specs.declared.device.IoFault.TheVariants as device
use Rattle.certificate_reader.specs.declared.line.CertLine.{CertLine}
use Rattle.certificate_reader.specs.Lines.{text_line_of}
use Rattle.certificate_definitions.specs.CertificateText.{TextLine, IsFaultAfter, longest_line, whole_line}
use Rattle.certificate_definitions.specs.CertificateMachine.{CertificatePlace, ended, next_place, place_after}
use Rattle.certificate_reader.specs.declared.stage.Stage.{Stage}
use Rattle.certificate_reader.specs.declared.fault.NextFault.{NextFault}
use Rattle.certificate_reader.specs.declared.fault.NextFault.TheVariants.{Text, Device, NoMemory}
use Rattle.certificate_reader.specs.declared.fault.TextFault.{TextFault}
use Rattle.certificate_reader.specs.declared.fault.TextFault.TheVariants.{Form, Version, Truncated, Limit}
use Rattle.certificate_reader.specs.Stages.{place_of}
use Rattle.certificate_reader.specs.Ends.{is_end}
use Rattle.certificate_reader.specs.Ready.{IsPrompt, IsUnready, come_at, is_ready}

-- the number of a fault
abbrev pub number_of : TextFault → ℕ
number_of Form = 40
number_of Version = 41
number_of Truncated = 42
number_of Limit = 55

abbrev pub of_device : IoFault → NextFault
of_device device.Device = Device
of_device device.NoMemory = NoMemory

-- a device failure counts as one failure, any other result as none
abbrev pub CountsFault : {T : Type 0} → (before after : ℕ) → Result T NextFault → Type 0
CountsFault before after (Err Device) = after ≡ one_more before
CountsFault before after _ = after ≡ before

-- The bytes are faulty at this stage, whatever follows them.
abbrev pub IsFaultAt : CertificatePlace → List ℕ → TextFault → Type 0
IsFaultAt place bytes fault =
    (before : List TextLine) → place_after before ≡ Some place → (more : List ℕ) → IsFaultAfter before (bytes ++ more) (number_of fault)

-- A line of this length is buffered.
abbrev pub HasEnd : List ℕ → ℕ → Type 0
HasEnd bytes end = (position is_end bytes ≡ Some end) × (end ≤ longest_line)

-- The buffered line is returned, or it is faulty.
abbrev pub IsTaken : CertificatePlace → (old new : List ℕ) → Result (CertLine × Stage) NextFault → Type 0
IsTaken place old new (Ok (line, next)) = (old ≡ whole_line (text_line_of line) ++ new) × (next_place place (text_line_of line) ≡ Some (place_of next))
IsTaken place old new (Err (Text Truncated)) = ⊥
IsTaken place old new (Err (Text fault)) = IsFaultAt place old fault
IsTaken place old new (Err Device) = ⊥
IsTaken place old new (Err NoMemory) = Unit {0}

-- From the buffered bytes and those read, no more than needed, the next line is returned; or they are faulty, or end too early.
abbrev pub IsNext : CertificatePlace → (old new : List ℕ) → (before after : Option (List ℕ)) → Result (CertLine × Stage) NextFault → Type 0
IsNext place old new before after (Ok (line, next)) =
    (bytes : List ℕ) × Consumes before after bytes × (old ++ bytes ≡ whole_line (text_line_of line) ++ new)
    × (next_place place (text_line_of line) ≡ Some (place_of next)) × IsPrompt is_ready old bytes
IsNext place old new before after (Err (Text Truncated)) =
    (bytes : List ℕ) × Consumes before after bytes × IsAtEnd after
    × ((lines : List TextLine) → place_after lines ≡ Some place → place ≢ ended → IsFaultAfter lines (old ++ bytes) 42)
IsNext place old new before after (Err (Text fault)) = (bytes : List ℕ) × Consumes before after bytes × IsFaultAt place (old ++ bytes) fault × IsPrompt is_ready old bytes
IsNext place old new before after (Err Device) = IsUnready before after old new
IsNext place old new before after (Err NoMemory) = Unit {0}

-- Nothing is buffered, and the source has ended; or some byte is buffered.
abbrev pub IsEnd : (old new : List ℕ) → (before after : Option (List ℕ)) → Result Bool IoFault → Type 0
IsEnd old new before after (Ok true) = (old ≡ []) × (new ≡ []) × Consumes before after [] × IsAtEnd after
IsEnd old new before after (Ok false) = (bytes : List ℕ) × Consumes before after bytes × (new ≡ old ++ bytes) × (new ≢ []) × IsPrompt (come_at ended) old bytes
IsEnd old new before after (Err device.Device) = (old ≡ []) × (new ≡ []) × Keeps before after
IsEnd old new before after (Err device.NoMemory) = Unit {0}
