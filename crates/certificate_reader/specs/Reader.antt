-- What a reader of a certificate's text has returned, and what it reports.
use Rattle.std.specs.Prelude.{◌≡◌, ℕ, ◌+◌, Bool, false, List, [], ◌∷◌, ◌++◌, length, Option, Some, None, Result, Ok, Err}
use Rattle.std.specs.Io.KnownBytes.{Consumes, IsAtEnd}
use Rattle.devices.specs.Devices.{one_more}
use Rattle.certificate_reader.specs.declared.line.CertLine.{CertLine}
use Rattle.certificate_reader.specs.Lines.{text_line_of}
use Rattle.certificate_definitions.specs.CertificateText.{TextLine, AreWhole, BeginCertificate, IsFaultAfter, whole_line}
use Rattle.certificate_definitions.specs.CertificateMachine.{place_after}
use Rattle.certificate_reader.specs.declared.reader.CertReader.{CertReader}
use Rattle.certificate_reader.specs.declared.reader.CertFault.{CertFault}
use Rattle.certificate_reader.specs.declared.reader.CertFault.TheVariants as cert
use Rattle.certificate_reader.specs.declared.fault.NextFault.{NextFault}
use Rattle.certificate_reader.specs.declared.fault.NextFault.TheVariants as next
use Rattle.certificate_reader.specs.declared.fault.TextFault.{TextFault}
use Rattle.certificate_reader.specs.declared.fault.TextFault.TheVariants.{Truncated}
use Rattle.certificate_reader.specs.Next.{number_of}
use Rattle.certificate_reader.specs.Ready.{IsPrompt, come_at}
use Rattle.certificate_reader.specs.Stages.{place_of}
use Rattle.certificate_reader.specs.Waiting.{waiting_of}

-- its source, its buffered bytes, and whether a fault was reported
abbrev pub source_of : {R : Type 0} → CertReader R → R
source_of reader = reader.source

-- the number of lines returned
abbrev pub lines_read : {R : Type 0} → CertReader R → ℕ
lines_read reader = reader.position.lines

abbrev pub waits_in : {R : Type 0} → CertReader R → List ℕ
waits_in reader = waiting_of reader.waiting

abbrev pub has_failed : {R : Type 0} → CertReader R → Bool
has_failed reader = reader.failed

-- the next result is determined by the buffer
abbrev pub has_come : {R : Type 0} → CertReader R → Bool
has_come reader = come_at (place_of reader.position.stage) (waits_in reader)

-- The reader has returned these lines.
pub record HasRead {R : Type 0} (reader : CertReader R) (lines : List TextLine) : Type 0 where
  pub place : place_after lines ≡ Some (place_of reader.position.stage)
  pub count : reader.position.lines ≡ length lines

abbrev pub fault_at : NextFault → ℕ → CertFault
fault_at (next.Text code) line = cert.Line code line
fault_at next.Device line = cert.Device
fault_at next.NoMemory line = cert.NoMemory

-- a device failure counts as one failure, any other result as none
abbrev pub CountsCert : {T : Type 0} → (before after : ℕ) → Result T CertFault → Type 0
CountsCert before after (Err cert.Device) = after ≡ one_more before
CountsCert before after _ = after ≡ before

-- The source was read only until the next result was determined.
abbrev pub WasPrompt : {R : Type 0} → CertReader R → (came : List ℕ) → Type 0
WasPrompt old came = IsPrompt (come_at (place_of old.position.stage)) (waits_in old) came

-- The bytes buffered before and those read are this line, with its LF, followed by the bytes buffered now.
pub record IsYielded {R : Type 0} (remaining : R → Option (List ℕ)) (old new : CertReader R) (before : List TextLine) (line : TextLine) : Type 0 where
  pub bytes : List ℕ
  pub consumed : Consumes (remaining (source_of old)) (remaining (source_of new)) bytes
  pub splits : waits_in old ++ bytes ≡ whole_line line ++ waits_in new
  pub read : HasRead new (before ++ line ∷ [])
  pub prompt : WasPrompt old bytes

-- The lines returned are those of a whole certificate, and nothing follows them.
pub record IsOver {R : Type 0} (remaining : R → Option (List ℕ)) (old new : CertReader R) (before : List TextLine) : Type 0 where
  pub whole : AreWhole before
  pub nothing : waits_in old ≡ []
  pub consumed : Consumes (remaining (source_of old)) (remaining (source_of new)) []
  pub at_end : IsAtEnd (remaining (source_of new))
  pub still : waits_in new ≡ []
  pub read : HasRead new before

-- The next result was not determined yet when the device failed, and the bytes read are buffered.
pub record IsCutOff {R : Type 0} (remaining : R → Option (List ℕ)) (old new : CertReader R) : Type 0 where
  pub bytes : List ℕ
  pub consumed : Consumes (remaining (source_of old)) (remaining (source_of new)) bytes
  pub waits : waits_in new ≡ waits_in old ++ bytes
  pub nothing : has_come new ≡ false

-- This is the fault of the bytes buffered and read: of a text that ends too early if it has ended, otherwise whatever follows.
abbrev pub IsReportedOf : {R : Type 0} → (remaining : R → Option (List ℕ)) → (old new : CertReader R) → List TextLine → TextFault → Type 0
IsReportedOf remaining old new before Truncated =
    (bytes : List ℕ) × Consumes (remaining (source_of old)) (remaining (source_of new)) bytes × IsAtEnd (remaining (source_of new))
    × IsFaultAfter before (waits_in old ++ bytes) 42
IsReportedOf remaining old new before fault =
    (bytes : List ℕ) × Consumes (remaining (source_of old)) (remaining (source_of new)) bytes
    × ((more : List ℕ) → IsFaultAfter before (waits_in old ++ bytes ++ more) (number_of fault)) × WasPrompt old bytes

-- the line returned or the fault reported, if these lines were returned before
abbrev pub IsAdvance : {R : Type 0} → (remaining : R → Option (List ℕ)) → (old new : CertReader R) → List TextLine → Result (Option CertLine) NextFault → Type 0
IsAdvance remaining old new before (Ok (Some line)) = IsYielded remaining old new before (text_line_of line)
IsAdvance remaining old new before (Ok None) = IsOver remaining old new before
IsAdvance remaining old new before (Err (next.Text fault)) = IsReportedOf remaining old new before fault
IsAdvance remaining old new before (Err next.Device) = IsCutOff remaining old new
IsAdvance remaining old new before (Err next.NoMemory) = Unit {0}

abbrev pub IsAnswer : {R : Type 0} → (remaining : R → Option (List ℕ)) → (old new : CertReader R) → List TextLine → Result (Option CertLine) CertFault → Type 0
IsAnswer remaining old new before (Ok (Some line)) = IsYielded remaining old new before (text_line_of line)
IsAnswer remaining old new before (Ok None) = IsOver remaining old new before
IsAnswer remaining old new before (Err (cert.Line code line)) = (line ≡ length before + 1) × IsReportedOf remaining old new before code
IsAnswer remaining old new before (Err cert.Device) = IsCutOff remaining old new
IsAnswer remaining old new before (Err cert.NoMemory) = Unit {0}
IsAnswer remaining old new before (Err cert.Failed) = ⊥

-- The lines returned are a prefix of a certificate, and so are the lines before a faulty one.
abbrev pub HaveBegun : List TextLine → Result (Option CertLine) CertFault → Type 0
HaveBegun before (Ok (Some line)) = BeginCertificate (before ++ text_line_of line ∷ [])
HaveBegun before (Ok None) = BeginCertificate before
HaveBegun before (Err fault) = BeginCertificate before
