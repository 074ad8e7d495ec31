-- Reports about what was read of a certificate are true.
use Rattle.std.proofs.Common.{◌≡◌, ◌∙◌, ℕ, List, ◌++◌, length, ap, append_assoc}
use Rattle.std.specs.Prelude.{Option, None, Some, IfSome}
use Rattle.std.specs.Io.KnownBytes.{Consumes}
use Rattle.certificate_definitions.specs.CertificateText.{TextLine, text_of}
use Rattle.certificate_reader.specs.declared.reader.CertReader.{CertReader}
use Rattle.certificate_reader.specs.Reader.{source_of, waits_in}
use Rattle.cert_checker.specs.Reading.{IsAt}
use Rattle.cert_checker.specs.ReadProgress.{IsReadLine, lines_line}

-- the bytes read are a prefix of the known text
begun : (known after : Option (List ℕ)) (bytes lines waits : List ℕ) → Consumes known after bytes → bytes ≡ lines ++ waits
    → (rest : List ℕ) × IfSome known (λ all. all ≡ lines ++ rest)
begun None after bytes lines waits consumed splits = (waits, tt)
begun (Some all) None bytes lines waits consumed splits = absurd consumed
begun (Some all) (Some left) bytes lines waits consumed splits =
    (waits ++ left, consumed ∙ ap (λ (b : List ℕ). b ++ left) splits ∙ append_assoc lines waits left)

module _ {R : Type 0} (remaining : R → Option (List ℕ)) where
  pub read_said : (first now : CertReader R) (lines : List TextLine) → IsAt remaining first now lines → (count : ℕ) → count ≡ length lines → (line : List ℕ) → line ≡ lines_line count
      → IsReadLine (remaining (source_of first)) line
  read_said first now lines at count counted line is =
      let (rest, known) = begun (remaining (source_of first)) (remaining (source_of now)) at.bytes (text_of lines) (waits_in now) at.consumed at.splits in
      (lines, rest, known, is ∙ ap lines_line counted)
