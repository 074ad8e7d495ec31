-- Progress lines of a check.
use Rattle.std.specs.Prelude.{◌≡◌, ℕ, ◌⊎◌, List, ◌++◌, length, codes, Option, IfSome}
use Rattle.std.specs.Fmt.{decimal}
use Rattle.model.specs.Task.{Task}
use Rattle.certificate_definitions.specs.Certificates.{Certificate}
use Rattle.certificate_definitions.specs.CertificateNames.{IsTextOf}
use Rattle.cert_checker.specs.ReadProgress.{IsReadLine}

-- after the last line: the numbers of the certificate's atoms and listed states
abbrev pub whole_line : (atoms listed : ℕ) → List ℕ
whole_line atoms listed = codes "progress=judge atoms=" ++ (decimal atoms ++ (codes " listed=" ++ (decimal listed ++ codes "\n")))

-- the text, if known, is that of a certificate with these numbers
abbrev pub IsWholeLine : Task → (known : Option (List ℕ)) → List ℕ → Type 0
IsWholeLine task known line =
    (text : List ℕ) × (c : Certificate) × IfSome known (λ bytes. bytes ≡ text) × IsTextOf task text c × (line ≡ whole_line (length c.atoms) (length c.lines))

abbrev pub IsCheckLine : Task → (known : Option (List ℕ)) → List ℕ → Type 0
IsCheckLine task known line = IsReadLine known line ⊎ IsWholeLine task known line
