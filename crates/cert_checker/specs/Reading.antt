-- How far a text has been read, and what is reported for it.
use Rattle.std.specs.Prelude.{◌≡◌, ◌≢◌, ◌&&◌, ◌+◌, IsTrue, All, AllPairs, ℕ, length, Bool, true, false, List, [], ◌∷◌, ◌++◌, Option, Some, None, Result, Err}
use Rattle.std.specs.Io.KnownBytes.{Consumes, IsAtEnd}
use Rattle.devices.specs.Devices.{one_more}
use Rattle.model.specs.Task.{Atom, Task}
use Rattle.model.specs.WellTyped.{is_atom}
use Rattle.model.specs.Fluents.{is_fluent}
use Rattle.model.specs.Claims.{none}
use Rattle.lower_bounds.specs.TableFunctions.{Row, Table}
use Rattle.certificate_definitions.specs.Certificates.{Certificate, StateLine, are_tables}
use Rattle.certificate_definitions.specs.CertificateNames.{IsTextOf}
use Rattle.certificate_reader.specs.declared.line.CertLine.{CertLine}
use Rattle.certificate_reader.specs.Lines.{claim_of, text_line_of}
use Rattle.certificate_definitions.specs.CertificateText.{TextLine, AreWhole, text_of}
use Rattle.certificate_definitions.specs.CertificateChecking.{AreRight, IsCut, IsLineFault}
use Rattle.certificate_reader.specs.declared.reader.CertReader.{CertReader}
use Rattle.certificate_reader.specs.Reader.{HasRead, has_failed, source_of, waits_in}
use Rattle.certificate.specs.declared.header.Header.{Header}
use Rattle.cert_checker.specs.declared.refusal.RefusalCode.{RefusalCode}
use Rattle.cert_checker.specs.declared.refusal.RefusalCode.TheVariants.{Limit, Truncated}
use Rattle.cert_checker.specs.declared.refusal.Refusal.{Refusal}
use Rattle.cert_checker.specs.declared.refusal.Refusal.TheVariants as refusal
use Rattle.cert_checker.specs.RefusalCode.{number_of}
use Rattle.cert_checker.specs.Given.{is_body, states_given}
use Rattle.certificate.specs.ListedSets.{Marked}
use Rattle.cert_checker.specs.Listed.{HaveListed}
use Rattle.cert_checker.specs.Taking.{HasTaken}

-- a reader that has returned nothing and has an empty buffer
pub record IsFresh {R : Type 0} (reader : CertReader R) : Type 0 where
  pub read : HasRead reader []
  pub waits : waits_in reader ≡ []
  pub going : has_failed reader ≡ false

-- Since its first state the reader has returned these lines: they and the buffer are what was read.
pub record IsAt {R : Type 0} (remaining : R → Option (List ℕ)) (first now : CertReader R) (lines : List TextLine) : Type 0 where
  pub read : HasRead now lines
  pub going : has_failed now ≡ false
  pub bytes : List ℕ
  pub consumed : Consumes (remaining (source_of first)) (remaining (source_of now)) bytes
  pub splits : bytes ≡ text_of lines ++ waits_in now

-- the same, and the lines are those of a whole certificate, which ends with what was read
pub record IsAtLast {R : Type 0} (remaining : R → Option (List ℕ)) (first now : CertReader R) (lines : List TextLine) : Type 0 where
  pub whole : AreWhole lines
  pub consumed : Consumes (remaining (source_of first)) (remaining (source_of now)) (text_of lines)
  pub at_end : IsAtEnd (remaining (source_of now))

-- The number is reported for this line of what was read: for a text that ends too early if it has ended, otherwise whatever
-- follows.
abbrev pub IsReportedAt : {R : Type 0} → (remaining : R → Option (List ℕ)) → Task → (first now : CertReader R) → RefusalCode → ℕ → Type 0
IsReportedAt remaining task first now Truncated line =
    (bytes : List ℕ) × Consumes (remaining (source_of first)) (remaining (source_of now)) bytes × IsAtEnd (remaining (source_of now)) × IsLineFault task bytes 42 line
IsReportedAt remaining task first now code line =
    (bytes : List ℕ) × Consumes (remaining (source_of first)) (remaining (source_of now)) bytes × ((more : List ℕ) → IsLineFault task (bytes ++ more) (number_of code) line)

-- the refusal is that of a line, without the line for a limit; or an allocation failed, or the device failed
abbrev pub IsLineRefusal : {R : Type 0} → (remaining : R → Option (List ℕ)) → Task → (first now : CertReader R) → Refusal → Type 0
IsLineRefusal remaining task first now (refusal.Line code line) = IsReportedAt remaining task first now code line
IsLineRefusal remaining task first now (refusal.Plain code) = (code ≡ Limit) × ((line : ℕ) × IsReportedAt remaining task first now code line)
IsLineRefusal remaining task first now refusal.NoMemory = Unit {0}
IsLineRefusal remaining task first now refusal.Device = Unit {0}
IsLineRefusal remaining task first now _ = ⊥

-- The lines up to the next one have given this; the next one is a state line or the last, or the text has ended.
abbrev pub IsBegun : {R : Type 0} → (remaining : R → Option (List ℕ)) → Task → (first now : CertReader R) → Header → Option CertLine → Type 0
IsBegun remaining task first now header (Some line) =
    (before : List TextLine) × IsAt remaining first now (before ++ text_line_of line ∷ []) × HasTaken task before header
    × (states_given before ≡ []) × (is_body (text_line_of line) ≡ true)
IsBegun remaining task first now header None =
    (lines : List TextLine) × IsAtLast remaining first now lines × HasTaken task lines header × (states_given lines ≡ [])

-- a device failure counts as one failure, any other result as none
abbrev pub CountsRefusal : {T : Type 0} → (before after : ℕ) → Result T Refusal → Type 0
CountsRefusal before after (Err refusal.Device) = after ≡ one_more before
CountsRefusal before after _ = after ≡ before

-- The lines up to the next one have given and listed this; the next one is a state line or the last, or the text has ended.
abbrev pub IsListedSoFar : {R : Type 0} → (remaining : R → Option (List ℕ)) → Task → (first now : CertReader R) → Header → (width : ℕ) → List Marked → List (List Bool) → Option CertLine → Type 0
IsListedSoFar remaining task first now header width marks sets (Some line) =
    (before : List TextLine) × IsAt remaining first now (before ++ text_line_of line ∷ []) × HasTaken task before header
    × HaveListed before (claim_of header.claim) width marks sets × (is_body (text_line_of line) ≡ true)
IsListedSoFar remaining task first now header width marks sets None =
    (lines : List TextLine) × IsAtLast remaining first now lines × HasTaken task lines header × HaveListed lines (claim_of header.claim) width marks sets

-- Everything read, to the end, is the text of this certificate of the task, and each of its lines is right.
pub record IsRead {R : Type 0} (remaining : R → Option (List ℕ)) (task : Task) (first now : CertReader R) (c : Certificate) : Type 0 where
  pub text : List ℕ
  pub consumed : Consumes (remaining (source_of first)) (remaining (source_of now)) text
  pub at_end : IsAtEnd (remaining (source_of now))
  pub is_text : IsTextOf task text c
  pub lines : List TextLine
  pub text_is : text ≡ text_of lines
  pub right : AreRight task lines
  pub fluent : All (λ (a : Atom). IsTrue (is_atom task a && is_fluent task a.predicate)) c.atoms
  pub distinct : AllPairs (λ (a b : Atom). a ≢ b) c.atoms
  pub tables : IsTrue (are_tables c.version (length c.atoms) (length c.values + 1) c.tables)
  pub rows_distinct : All (λ (t : Table). AllPairs (λ (q r : Row). q.atoms ≢ r.atoms) t.rows) c.tables
  pub allowed : c.claim ≡ none → All (λ (l : StateLine). ¬ IsCut l.mark) c.lines
