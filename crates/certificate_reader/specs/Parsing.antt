-- The result of parsing bytes as a line.
use Rattle.std.specs.Prelude.{◌≡◌, ◌≢◌, ℕ, List, ◌++◌, codes, Result, Ok, Err, IsTrue}
use Rattle.std.specs.Fmt.{decimal}
use Rattle.certificate_definitions.specs.Certificates.{is_number}
use Rattle.certificate_reader.specs.declared.line.CertLine.{CertLine}
use Rattle.certificate_reader.specs.Lines.{text_line_of}
use Rattle.certificate_definitions.specs.CertificateText.{Format, TextLine, is_line, line_text}
use Rattle.certificate_reader.specs.declared.fault.NextFault.{NextFault}
use Rattle.certificate_reader.specs.declared.fault.NextFault.TheVariants.{Text, NoMemory}
use Rattle.certificate_reader.specs.declared.fault.TextFault.TheVariants as fault
use Rattle.certificate_reader.specs.Words.{IsReadAs}

-- the bytes are the returned line, in a text of this format; or the first line for another version; or neither
abbrev pub IsParsed : List ℕ → Format → Result CertLine NextFault → Type 0
IsParsed bytes f (Ok line) = (line_text (text_line_of line) ≡ bytes) × IsTrue (is_line f (text_line_of line))
IsParsed bytes f (Err (Text fault.Version)) =
    (number : ℕ) × IsTrue (is_number number) × (number ≢ 1) × (number ≢ 2) × (number ≢ 3) × (number ≢ 4) × (codes "pddl-cert " ++ decimal number ≡ bytes)
IsParsed bytes f (Err (Text fault.Form)) =
    ((line : TextLine) → IsTrue (is_line f line) → line_text line ≢ bytes)
    × ((number : ℕ) → IsTrue (is_number number) → codes "pddl-cert " ++ decimal number ≢ bytes)
IsParsed bytes f (Err NoMemory) = Unit {0}
IsParsed bytes f _ = ⊥

-- the same for bytes that consist of this word, a blank, and these
abbrev pub IsParsedAfter : (word rest : List ℕ) → Format → Result CertLine NextFault → Type 0
IsParsedAfter word rest f (Ok line) = IsReadAs word rest f (text_line_of line)
IsParsedAfter word rest f (Err (Text fault.Version)) =
    (word ≡ codes "pddl-cert") × ((number : ℕ) × IsTrue (is_number number) × (number ≢ 1) × (number ≢ 2) × (number ≢ 3) × (number ≢ 4) × (decimal number ≡ rest))
IsParsedAfter word rest f (Err (Text fault.Form)) =
    ((line : TextLine) → IsReadAs word rest f line → ⊥)
    × (word ≡ codes "pddl-cert" → (number : ℕ) → IsTrue (is_number number) → decimal number ≢ rest)
IsParsedAfter word rest f (Err NoMemory) = Unit {0}
IsParsedAfter word rest f _ = ⊥
