-- Progress reports while a certificate is read.
use Rattle.std.specs.Prelude.{◌≡◌, ℕ, List, ◌++◌, length, codes, Option, IfSome}
use Rattle.std.specs.Fmt.{decimal}
use Rattle.certificate_definitions.specs.CertificateText.{TextLine, text_of}

-- the number of lines read so far
abbrev pub lines_line : (lines : ℕ) → List ℕ
lines_line lines = codes "progress=read lines=" ++ (decimal lines ++ codes "\n")

-- The text, if it is known, begins with this many lines.
abbrev pub IsReadLine : (known : Option (List ℕ)) → List ℕ → Type 0
IsReadLine known line =
    (lines : List TextLine) × (rest : List ℕ) × IfSome known (λ bytes. bytes ≡ text_of lines ++ rest) × (line ≡ lines_line (length lines))
