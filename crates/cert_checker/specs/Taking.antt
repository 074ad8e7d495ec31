-- The effect of one more line.
use Rattle.std.specs.Prelude.{◌≡◌, ◌+◌, true, List, [], ◌∷◌, ◌++◌, length, map, Option, Some, None}
use Rattle.task.specs.TaskParts.{atom_of}
use Rattle.model.specs.Task.{Task}
use Rattle.certificate_reader.specs.declared.line.CertLine.{CertLine}
use Rattle.certificate_reader.specs.Lines.{claim_of, text_line_of, version_of}
use Rattle.certificate_definitions.specs.CertificateText.{TextLine}
use Rattle.certificate_definitions.specs.CertificateChecking.{IsWrongAfter}
use Rattle.certificate.specs.declared.header.Header.{Header}
use Rattle.cert_checker.specs.declared.refusal.Refusal.{Refusal}
use Rattle.cert_checker.specs.declared.refusal.Refusal.TheVariants as refusal
use Rattle.cert_checker.specs.RefusalCode.{number_of}
use Rattle.cert_checker.specs.Given.{Heading, HaveGiven, is_body, state_in}
use Rattle.certificate.specs.CertificateParts.{exchange_in}
use Rattle.certificate.specs.Evidence.{evidence_of}
use Rattle.landmark_zones.specs.Landmarks.{landmarks_of}

abbrev pub heading_of : Header → Heading
heading_of header = record {
  version = version_of header.version;
  claim = claim_of header.claim;
  exchanges = map exchange_in header.exchanges.items;
  atoms = map atom_of header.atoms.keys;
  evidence = evidence_of header.evidence;
  landmarks = landmarks_of header.evidence.landmarks;
}

-- the header is what these lines give
abbrev pub HasTaken : Task → List TextLine → Header → Type 0
HasTaken task lines header = HaveGiven task lines (heading_of header)

-- the line was taken; or it is a state line or the last, and was given back
abbrev pub IsTaken : Task → (before : List TextLine) → TextLine → Header → Option CertLine → Type 0
IsTaken task before line header None = HasTaken task (before ++ line ∷ []) header × (state_in line ≡ None)
IsTaken task before line header (Some back) = HasTaken task before header × (text_line_of back ≡ line) × (is_body line ≡ true)

-- the refusal is that of this line after those; or an allocation failed
abbrev pub IsWrongNow : Task → (before : List TextLine) → TextLine → Refusal → Type 0
IsWrongNow task before line (refusal.Line code at) = (at ≡ length before + 1) × IsWrongAfter task before line (number_of code)
IsWrongNow task before line refusal.NoMemory = Unit {0}
IsWrongNow task before line _ = ⊥
