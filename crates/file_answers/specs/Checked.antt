-- What holds of a certificate for the task of two texts, and for the plan of a third if that is given: by what a reader has read
-- of the certificate, and by its whole text.
use Rattle.std.specs.Prelude.{◌≡◌, ℕ, ◌⊎◌, List, Option, None, Some, Result, Ok, Err, IfOk, IfErr}
use Rattle.certificate_definitions.specs.CertificateText.{TextLine, text_of}
use Rattle.certificate_definitions.specs.CertificateNames.{IsTextOf}
use Rattle.certificate_definitions.specs.CertificateChecking.{AreRight, IsAccepted, IsLineFault}
use Rattle.certificate_reader.specs.declared.reader.CertReader.{CertReader}
use Rattle.certificate_reader.specs.Reader.{source_of}
use Rattle.cert_checker.specs.declared.refusal.Refusal.{Refusal}
use Rattle.cert_checker.specs.declared.refusal.Refusal.TheVariants as refusal
use Rattle.cert_checker.specs.declared.refusal.RefusalCode.TheVariants.{Limit}
use Rattle.cert_checker.specs.RefusalCode.{number_of}
use Rattle.cert_checker.specs.declared.checker.Accepted.{Accepted}
use Rattle.cert_checker.specs.CertChecker.{Answers, IsFirstRefusal, IsNoFault, IsShown, IsTrueRefusal}
use Rattle.cert_checker.specs.Checking.{Accepts, Refuses}
use Rattle.model.specs.Task.{Task, Instance}
use Rattle.model.specs.Limits.{max_numbered_atoms}
use Rattle.model.specs.Grounding.{exceeded_limit}
use Rattle.certificate_definitions.specs.Certificates.{Certificate}
use Rattle.file_answers.specs.Inputs.{IsGiven}

-- The answer is correct for what the reader has read, for this task and the plan in this text, if one is given.
pub record IsChecked {R : Type 0} (remaining : R → Option (List ℕ)) (task : Task) (first now : CertReader R) (text : Option (List ℕ)) (most : ℕ) (answer : Result Accepted Refusal) : Type 0 where
  pub plan : Option (List Instance)
  pub given : IsGiven task text plan
  pub shown : IfOk answer (IsShown task plan)
  pub accepted : IfOk answer (Accepts remaining task first now plan most)
  pub accepts : (cert : List ℕ) → remaining (source_of first) ≡ Some cert → IsAccepted task cert plan → IfErr answer IsNoFault
  pub refused : IfErr answer (Refuses remaining task first now plan most)

-- The text is that of an accepted certificate, and the ground task is within its limits; the answer is the one to the claim, and
-- what it shows is true.
pub record IsAcceptedAs (task : Task) (text : List ℕ) (plan : Option (List Instance)) (most : ℕ) (answer : Accepted) : Type 0 where
  pub accepted : IsAccepted task text plan
  pub within : exceeded_limit most max_numbered_atoms task accepted.certificate.atoms ≡ None
  pub answers : Answers accepted.certificate.claim plan answer
  pub shown : IsShown task plan answer

-- The text is that of this certificate, and each of its lines is right.
pub record IsRightText (task : Task) (text : List ℕ) (c : Certificate) : Type 0 where
  pub is_text : IsTextOf task text c
  pub lines : List TextLine
  pub text_is : text ≡ text_of lines
  pub right : AreRight task lines

-- the refusal is that of the text's first faulty line; a limit is reported without its line
abbrev pub IsAtLine : Task → (text : List ℕ) → Refusal → Type 0
IsAtLine task text (refusal.Line code line) = IsLineFault task text (number_of code) line
IsAtLine task text (refusal.Unfair i) = ⊥
IsAtLine task text (refusal.DeadUnfair i) = ⊥
IsAtLine task text (refusal.Plain code) = (code ≡ Limit) × ((line : ℕ) × IsLineFault task text (number_of code) line)
IsAtLine task text refusal.NoMemory = ⊥
IsAtLine task text refusal.Device = ⊥
IsAtLine task text refusal.Failed = ⊥

-- This is the refusal; or each line is right, and the refusal is true of the certificate and the first one.
abbrev pub IsRefusedAs : Task → (text : List ℕ) → Option (List Instance) → (most : ℕ) → Refusal → Type 0
IsRefusedAs task text plan most refusal =
    IsAtLine task text refusal
    ⊎ ((c : Certificate) × IsRightText task text c × IsTrueRefusal task c plan most refusal × IsFirstRefusal task c plan most refusal)

-- the answer is correct for this text of a certificate
abbrev pub IsTrueCheck : Task → (text : List ℕ) → Option (List Instance) → (most : ℕ) → Result Accepted Refusal → Type 0
IsTrueCheck task text plan most (Ok answer) = IsAcceptedAs task text plan most answer
IsTrueCheck task text plan most (Err refusal) = IsRefusedAs task text plan most refusal
