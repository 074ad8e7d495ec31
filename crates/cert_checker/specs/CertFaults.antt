-- Reader faults as the checker reports them.
use Rattle.std.specs.Prelude.{ℕ}
use Rattle.certificate_reader.specs.declared.fault.TextFault.{TextFault}
use Rattle.certificate_reader.specs.declared.fault.TextFault.TheVariants as text
use Rattle.certificate_reader.specs.declared.reader.CertFault.{CertFault}
use Rattle.certificate_reader.specs.declared.reader.CertFault.TheVariants as cert
use Rattle.cert_checker.specs.declared.refusal.Refusal.{Refusal}
use Rattle.cert_checker.specs.declared.refusal.Refusal.TheVariants as refusal
use Rattle.cert_checker.specs.declared.refusal.RefusalCode.TheVariants.{CertForm, CertVersion, Truncated, Limit}

-- the refusal of a text at this line; a limit has no line
abbrev pub text_refusal : TextFault → (line : ℕ) → Refusal
text_refusal text.Form line = refusal.Line CertForm line
text_refusal text.Version line = refusal.Line CertVersion line
text_refusal text.Truncated line = refusal.Line Truncated line
text_refusal text.Limit line = refusal.Plain Limit

abbrev pub refusal_of : CertFault → Refusal
refusal_of (cert.Line code line) = text_refusal code line
refusal_of cert.Device = refusal.Device
refusal_of cert.NoMemory = refusal.NoMemory
refusal_of cert.Failed = refusal.Failed
