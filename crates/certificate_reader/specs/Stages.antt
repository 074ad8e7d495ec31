-- The stage of the code's reader, and the result of a line there.
use Rattle.std.specs.Prelude.{◌≡◌, ◌≢◌, ℕ, Bool, true, false, ◌&&◌, nat_le, List, ◌++◌, codes, None, Some, Result, Ok, Err, IsTrue}
use Rattle.std.specs.Fmt.{decimal}
use Rattle.certificate_definitions.specs.Certificates.{has_basis, is_number}
use Rattle.certificate_reader.specs.declared.line.CertLine.{CertLine}
use Rattle.certificate_reader.specs.declared.format.Format.{Format}
use Rattle.certificate_reader.specs.Lines.{text_line_of, version_of}
use Rattle.certificate_definitions.specs.CertificateText as text
use Rattle.certificate_definitions.specs.CertificateText.{TextLine, swapped, atom, part, listed, is_line, line_text, most_swaps, most_atoms, most_states}
use Rattle.certificate_definitions.specs.Parts.{are_few, has_room, how_many, may_follow}
use Rattle.certificate_reader.specs.Parts.{counts_of}
use Rattle.certificate_definitions.specs.CertificateMachine as machine
use Rattle.certificate_definitions.specs.CertificateMachine.{CertificatePlace, at_version, at_claim, at_constant, in_body, ended, format_at, next_place}
use Rattle.certificate_reader.specs.declared.stage.Body.{Body}
use Rattle.certificate_reader.specs.declared.stage.Stage.{Stage}
use Rattle.certificate_reader.specs.declared.stage.Stage.TheVariants as stage
use Rattle.certificate_reader.specs.declared.fault.NextFault.{NextFault}
use Rattle.certificate_reader.specs.declared.fault.NextFault.TheVariants.{Text, NoMemory}
use Rattle.certificate_reader.specs.declared.fault.TextFault.{TextFault}
use Rattle.certificate_reader.specs.declared.fault.TextFault.TheVariants as fault

abbrev pub format_of : Format → text.Format
format_of f = record { version = version_of f.version; weights = f.weights; atoms = f.atoms }

abbrev pub body_of : Body → machine.Body
body_of b = record { format = format_of b.format; swaps = b.swaps; parts = counts_of b.parts; states = b.states }

abbrev pub place_of : Stage → CertificatePlace
place_of stage.Version = at_version
place_of (stage.Claim version) = at_claim (version_of version)
place_of (stage.Constants version) = at_constant (version_of version)
place_of (stage.Body b) = in_body (body_of b)
place_of stage.Ended = ended

-- the body has weights, and its numbers of exchanges, atoms, parts and states are within the limits
abbrev pub is_body_within : machine.Body → Bool
is_body_within b = (nat_le 1 b.format.weights && nat_le b.swaps most_swaps) && (nat_le b.format.atoms most_atoms && are_few b.parts && nat_le b.states most_states)

abbrev pub is_within : CertificatePlace → Bool
is_within at_version = true
is_within (at_claim v) = true
is_within (at_constant v) = true
is_within (in_body b) = is_body_within b
is_within ended = true

abbrev pub IsWithin : CertificatePlace → Type 0
IsWithin place = IsTrue (is_within place)

-- the line would be allowed there but for a limit
abbrev pub IsOver : CertificatePlace → TextLine → Type 0
IsOver (in_body b) (swapped names) = (b.format.atoms ≡ 0) × (how_many b.parts ≡ 0) × (b.states ≡ 0) × (b.swaps ≡ most_swaps)
IsOver (in_body b) (atom a) = (how_many b.parts ≡ 0) × (b.states ≡ 0) × (b.format.atoms ≡ most_atoms)
IsOver (in_body b) (part p) = (b.states ≡ 0) × IsTrue (may_follow b.parts p) × (has_room b.parts p ≡ false)
IsOver (in_body b) (listed l) = IsTrue (has_basis b.parts.values l.mark) × (b.states ≡ most_states)
IsOver _ _ = ⊥

-- the line leads to this stage, exceeds a limit, or is not allowed there
abbrev pub IsStep : CertificatePlace → TextLine → Result Stage TextFault → Type 0
IsStep place line (Ok next) = next_place place line ≡ Some (place_of next)
IsStep place line (Err fault.Limit) = IsOver place line
IsStep place line (Err fault.Form) = (next_place place line ≡ None) × (IsOver place line → ⊥)
IsStep place line _ = ⊥

-- The bytes are the returned line and lead to this stage; or this is reported for them.
abbrev pub IsReadAt : CertificatePlace → List ℕ → Result (CertLine × Stage) NextFault → Type 0
IsReadAt place bytes (Ok (line, next)) = (line_text (text_line_of line) ≡ bytes) × (next_place place (text_line_of line) ≡ Some (place_of next))
IsReadAt place bytes (Err (Text fault.Version)) =
    (place ≡ at_version) × ((number : ℕ) × IsTrue (is_number number) × (number ≢ 1) × (number ≢ 2) × (number ≢ 3) × (number ≢ 4) × (codes "pddl-cert " ++ decimal number ≡ bytes))
IsReadAt place bytes (Err (Text fault.Limit)) = (line : TextLine) × IsTrue (is_line (format_at place) line) × IsOver place line × (line_text line ≡ bytes)
IsReadAt place bytes (Err (Text fault.Form)) =
    ((line : TextLine) (next : CertificatePlace) → next_place place line ≡ Some next → line_text line ≢ bytes)
    × ((line : TextLine) → IsTrue (is_line (format_at place) line) → IsOver place line → line_text line ≢ bytes)
    × (place ≡ at_version → (number : ℕ) → IsTrue (is_number number) → number ≢ 1 → number ≢ 2 → number ≢ 3 → number ≢ 4 → codes "pddl-cert " ++ decimal number ≢ bytes)
IsReadAt place bytes (Err NoMemory) = Unit {0}
IsReadAt place bytes _ = ⊥
