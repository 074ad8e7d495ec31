-- What is said of a certificate that was read is so.
use Rattle.std.proofs.Common.{◌≡◌, ◌∙◌, ℕ, List, ◌++◌, length, ap, append-nil}
use Rattle.std.specs.Prelude.{Option, None, Some, IfSome}
use Rattle.std.specs.Io.KnownBytes.{Consumes, IsAtEnd}
use Rattle.model.specs.Task.{Task}
use Rattle.certificate_definitions.specs.Certificates.{Certificate}
use Rattle.certificate_reader.specs.declared.reader.CertReader.{CertReader}
use Rattle.certificate_reader.specs.Reader.{source_of}
use Rattle.cert_checker.specs.Reading.{IsRead}
use Rattle.cert_checker.specs.CheckProgress.{IsWholeLine, whole_line}

-- bytes that came to the end are all that was known
whole : (known after : Option (List ℕ)) (bytes : List ℕ) → Consumes known after bytes → IsAtEnd after → IfSome known (λ all. all ≡ bytes)
whole None after bytes consumed ended = tt
whole (Some all) None bytes consumed ended = absurd consumed
whole (Some all) (Some left) bytes consumed ended = consumed ∙ ap (λ (b : List ℕ). bytes ++ b) ended ∙ append-nil bytes

module _ {R : Type 0} (remaining : R → Option (List ℕ)) where
  pub whole_said : (task : Task) (first now : CertReader R) (c : Certificate) → IsRead remaining task first now c → (line : List ℕ) → line ≡ whole_line (length c.atoms) (length c.lines)
      → IsWholeLine task (remaining (source_of first)) line
  whole_said task first now c read line is =
      (read.text, c, whole (remaining (source_of first)) (remaining (source_of now)) read.text read.consumed read.at_end, read.is_text, is)
