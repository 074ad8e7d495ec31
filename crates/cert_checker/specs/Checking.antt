-- What the checker's answers say of the text that was read.
use Rattle.std.specs.Prelude.{◌≡◌, ℕ, ◌⊎◌, List, Option, None}
use Rattle.std.specs.Io.KnownBytes.{Consumes, IsAtEnd}
use Rattle.model.specs.Task.{Task, Instance}
use Rattle.model.specs.Limits.{max_numbered_atoms}
use Rattle.model.specs.Grounding.{exceeded_limit}
use Rattle.certificate_definitions.specs.Certificates.{Certificate}
use Rattle.certificate_definitions.specs.CertificateChecking.{IsAccepted}
use Rattle.certificate_reader.specs.declared.reader.CertReader.{CertReader}
use Rattle.certificate_reader.specs.Reader.{source_of}
use Rattle.cert_checker.specs.declared.refusal.Refusal.{Refusal}
use Rattle.cert_checker.specs.Reading.{IsLineRefusal, IsRead}
use Rattle.cert_checker.specs.declared.checker.Accepted.{Accepted}
use Rattle.cert_checker.specs.CertChecker.{Answers, IsFirstRefusal, IsTrueRefusal}

-- The whole text was read and is accepted, the ground task keeps its limits, and the answer fits the claim.
pub record Accepts {R : Type 0} (remaining : R → Option (List ℕ)) (task : Task) (first now : CertReader R) (plan : Option (List Instance)) (most : ℕ) (answer : Accepted) : Type 0 where
  pub text : List ℕ
  pub consumed : Consumes (remaining (source_of first)) (remaining (source_of now)) text
  pub at_end : IsAtEnd (remaining (source_of now))
  pub accepted : IsAccepted task text plan
  pub within : exceeded_limit most max_numbered_atoms task accepted.certificate.atoms ≡ None
  pub answers : Answers accepted.certificate.claim plan answer

-- The refusal is that of the first faulty line; or the whole text was read, without fault, and the refusal is true of its
-- certificate, and the first.
abbrev pub Refuses : {R : Type 0} → (remaining : R → Option (List ℕ)) → Task → (first now : CertReader R) → Option (List Instance) → (most : ℕ) → Refusal → Type 0
Refuses remaining task first now plan most refusal =
    IsLineRefusal remaining task first now refusal
    ⊎ ((c : Certificate) × IsRead remaining task first now c × IsTrueRefusal task c plan most refusal × IsFirstRefusal task c plan most refusal)
