-- What a reader returns and reports, given the lines returned before.
use Rattle.std.proofs.Common.{◌≡◌, ◌≢◌, ℕ, ◌+◌, ◌<◌, true, List, [], ◌∷◌, ◌++◌, map, length, Option, None, Some, refl, ap, ◌∙◌, subst, length-append, arith}
use Rattle.std.specs.Prelude.{◌&&◌, ◌==◌, nat_le, nat_lt, Err, Ok}
use Rattle.std.proofs.lemmas.Bool.{and_parts, eqb-true, le-leb, leb-true, ltb-true}
use Rattle.std.specs.List.{list_all}
use Rattle.std.proofs.lemmas.List.{length-map}
use Rattle.certificate_definitions.specs.Certificates.{Version, one, two, three, four, StateLine, has_basis, is_weight}
use Rattle.certificate_definitions.proofs.Beginnings.{body_lines}
use Rattle.certificate_definitions.specs.CertificateText.{Part, TextLine, version, claims, constant, swapped, atom, part, listed, last, is_line, most_swaps, most_atoms, most_states, is_weight_count, format_of, text_lines, WeightedAtom, Beginning, AreWhole, IsFaultAfter, trailing}
use Rattle.certificate_definitions.specs.CertificateMachine.{CertificatePlace, at_version, at_claim, at_constant, in_body, ended, no_format, no_body, swap_more, atom_more, part_more, state_more, swap_follows, atom_follows, part_follows, state_follows, next_place}
use Rattle.certificate_definitions.specs.Parts.{are_few, counts_after, has_room, no_parts}
use Rattle.certificate_definitions.proofs.PartLemmas.{ordered_are_few, stays_few}
use Rattle.certificate_definitions.proofs.Machine.{ComesBefore, begins, never, only_where, place_same}
use Rattle.certificate_reader.specs.declared.line.CertLine.{CertLine}
use Rattle.certificate_reader.specs.Lines.{text_line_of}
use Rattle.certificate_reader.specs.declared.reader.CertReader.{CertReader}
use Rattle.certificate_reader.specs.declared.fault.NextFault.{NextFault}
use Rattle.certificate_reader.specs.declared.fault.NextFault.TheVariants as next
use Rattle.certificate_reader.specs.declared.fault.TextFault.{TextFault}
use Rattle.certificate_reader.specs.declared.fault.TextFault.TheVariants.{Truncated}
use Rattle.certificate_reader.specs.declared.stage.Stage.{Stage}
use Rattle.certificate_reader.specs.declared.stage.Stage.TheVariants as stage
use Rattle.certificate_reader.specs.Stages.{IsWithin, place_of}
use Rattle.certificate_reader.specs.Ready.{IsPrompt, come_at, is_ready}
use Rattle.certificate_reader.specs.Reader.{HasRead, HaveBegun, IsAdvance, IsAnswer, IsReportedOf, fault_at}

some_constants : (v : Version) (n : ℕ) → is_weight_count v n ≡ true → nat_le 1 n ≡ true
some_constants one n is = le-leb 1 n (omega (arith, eqb-true n 1 is))
some_constants two n is = le-leb 1 n (omega (arith, eqb-true n 2 is))
some_constants three n is = le-leb 1 n (omega (arith, leb-true 2 n (and_parts (nat_le 2 n) (nat_le n 33) is).0))
some_constants four n is = le-leb 1 n (omega (arith, leb-true 2 n (and_parts (nat_le 2 n) (nat_le n 33) is).0))

-- one more line leads to a state within the limits
pub leads_within : (place : CertificatePlace) → IsWithin place → (line : TextLine) (next : CertificatePlace) → next_place place line ≡ Some next → IsWithin next
leads_within at_version within (version w) next leads = subst IsWithin (place_same (at_claim w) next leads) refl
leads_within at_version within (claims claim) next leads = never next leads
leads_within at_version within (constant k) next leads = never next leads
leads_within at_version within (swapped names) next leads = never next leads
leads_within at_version within (atom a) next leads = never next leads
leads_within at_version within (part p) next leads = never next leads
leads_within at_version within (listed l) next leads = never next leads
leads_within at_version within (last count) next leads = never next leads
leads_within (at_claim v) within (version w) next leads = never next leads
leads_within (at_claim v) within (claims claim) next leads = subst IsWithin (only_where (is_line (no_format v) (claims claim)) (at_constant v) next leads).1 refl
leads_within (at_claim v) within (constant k) next leads = never next leads
leads_within (at_claim v) within (swapped names) next leads = never next leads
leads_within (at_claim v) within (atom a) next leads = never next leads
leads_within (at_claim v) within (part p) next leads = never next leads
leads_within (at_claim v) within (listed l) next leads = never next leads
leads_within (at_claim v) within (last count) next leads = never next leads
leads_within (at_constant v) within (version w) next leads = never next leads
leads_within (at_constant v) within (claims claim) next leads = never next leads
leads_within (at_constant v) within (constant k) next leads =
    let (holds, same) = only_where (is_line (no_format v) (constant k)) (in_body (no_body v (length k))) next leads in
    let some = some_constants v (length k) (and_parts (is_weight_count v (length k)) (list_all is_weight k) holds).0 in
    subst IsWithin same (λ i. (some i && true) && true)
leads_within (at_constant v) within (swapped names) next leads = never next leads
leads_within (at_constant v) within (atom a) next leads = never next leads
leads_within (at_constant v) within (part p) next leads = never next leads
leads_within (at_constant v) within (listed l) next leads = never next leads
leads_within (at_constant v) within (last count) next leads = never next leads
leads_within (in_body b) within (version w) next leads = never next leads
leads_within (in_body b) within (claims claim) next leads = never next leads
leads_within (in_body b) within (constant k) next leads = never next leads
leads_within (in_body b) within (swapped names) next leads =
    let (holds, same) = only_where (swap_follows b && nat_lt b.swaps most_swaps && is_line b.format (swapped names)) (in_body (swap_more b)) next leads in
    let below : b.swaps < most_swaps = ltb-true b.swaps most_swaps (and_parts (swap_follows b) (nat_lt b.swaps most_swaps) (and_parts (swap_follows b && nat_lt b.swaps most_swaps) (is_line b.format (swapped names)) holds).0).1 in
    let all = and_parts (nat_le 1 b.format.weights && nat_le b.swaps most_swaps) (nat_le b.format.atoms most_atoms && are_few b.parts && nat_le b.states most_states) within in
    let front = and_parts (nat_le 1 b.format.weights) (nat_le b.swaps most_swaps) all.0 in
    subst IsWithin same (λ i. (front.0 i && le-leb (b.swaps + 1) most_swaps (omega (arith, below)) i) && all.1 i)
leads_within (in_body b) within (atom a) next leads =
    let (holds, same) = only_where (atom_follows b && nat_lt b.format.atoms most_atoms && is_line b.format (atom a)) (in_body (atom_more b)) next leads in
    let below : b.format.atoms < most_atoms = ltb-true b.format.atoms most_atoms (and_parts (atom_follows b) (nat_lt b.format.atoms most_atoms) (and_parts (atom_follows b && nat_lt b.format.atoms most_atoms) (is_line b.format (atom a)) holds).0).1 in
    let all = and_parts (nat_le 1 b.format.weights && nat_le b.swaps most_swaps) (nat_le b.format.atoms most_atoms && are_few b.parts && nat_le b.states most_states) within in
    let more = and_parts (nat_le b.format.atoms most_atoms && are_few b.parts) (nat_le b.states most_states) all.1 in
    let few = and_parts (nat_le b.format.atoms most_atoms) (are_few b.parts) more.0 in
    subst IsWithin same (λ i. all.0 i && (le-leb (b.format.atoms + 1) most_atoms (omega (arith, below)) i && few.1 i && more.1 i))
leads_within (in_body b) within (part p) next leads =
    let (holds, same) = only_where (part_follows p b && has_room b.parts p && is_line b.format (part p)) (in_body (part_more p b)) next leads in
    let room = (and_parts (part_follows p b) (has_room b.parts p) (and_parts (part_follows p b && has_room b.parts p) (is_line b.format (part p)) holds).0).1 in
    let all = and_parts (nat_le 1 b.format.weights && nat_le b.swaps most_swaps) (nat_le b.format.atoms most_atoms && are_few b.parts && nat_le b.states most_states) within in
    let more = and_parts (nat_le b.format.atoms most_atoms && are_few b.parts) (nat_le b.states most_states) all.1 in
    let few = and_parts (nat_le b.format.atoms most_atoms) (are_few b.parts) more.0 in
    subst IsWithin same (λ i. all.0 i && (few.0 i && stays_few b.parts p few.1 room i && more.1 i))
leads_within (in_body b) within (listed l) next leads =
    let (holds, same) = only_where (state_follows l b && nat_lt b.states most_states && is_line b.format (listed l)) (in_body (state_more b)) next leads in
    let below : b.states < most_states = ltb-true b.states most_states (and_parts (state_follows l b) (nat_lt b.states most_states) (and_parts (state_follows l b && nat_lt b.states most_states) (is_line b.format (listed l)) holds).0).1 in
    let all = and_parts (nat_le 1 b.format.weights && nat_le b.swaps most_swaps) (nat_le b.format.atoms most_atoms && are_few b.parts && nat_le b.states most_states) within in
    let more = and_parts (nat_le b.format.atoms most_atoms && are_few b.parts) (nat_le b.states most_states) all.1 in
    let few = and_parts (nat_le b.format.atoms most_atoms) (are_few b.parts) more.0 in
    subst IsWithin same (λ i. all.0 i && (few.0 i && few.1 i && le-leb (b.states + 1) most_states (omega (arith, below)) i))
leads_within (in_body b) within (last count) next leads = subst IsWithin (only_where (count == b.states) ended next leads).1 refl
leads_within ended within (version w) next leads = never next leads
leads_within ended within (claims claim) next leads = never next leads
leads_within ended within (constant k) next leads = never next leads
leads_within ended within (swapped names) next leads = never next leads
leads_within ended within (atom a) next leads = never next leads
leads_within ended within (part p) next leads = never next leads
leads_within ended within (listed l) next leads = never next leads
leads_within ended within (last count) next leads = never next leads

-- ---- the number of lines

body_length : (swaps : List (List (List ℕ))) (atoms : List WeightedAtom) (parts : List Part) (states : List StateLine)
    → length (body_lines swaps atoms parts states) ≡ (length swaps + length atoms + length parts) + length states
body_length swaps atoms parts states =
    omega (
      arith,
      length-append ((map swapped swaps ++ map atom atoms) ++ map part parts) (map listed states),
      length-append (map swapped swaps ++ map atom atoms) (map part parts),
      length-append (map swapped swaps) (map atom atoms),
      length-map swaps swapped,
      length-map atoms atom,
      length-map parts part,
      length-map states listed,
    )

-- the number of lines is limited, so their count is exact
pub few_lines : (lines : List TextLine) (place : CertificatePlace) → ComesBefore place lines → length lines < 61000000
few_lines lines at_version are = omega (arith, ap length are)
few_lines lines (at_claim v) are = omega (arith, ap length are)
few_lines lines (at_constant v) (claim, is, are) = omega (arith, ap length are)
few_lines lines (in_body b) body =
    let g : Beginning = body.beginning in
    omega (arith, ap length body.lines_are, body_length g.swaps g.atoms g.parts g.states, ordered_are_few g.parts body.keeps.in_order, body.keeps.few_swaps, body.keeps.few_atoms, body.keeps.few_states)
few_lines lines ended (c, keeps, are) =
    let (counts, each) = and_parts _ (list_all (is_line (format_of c)) (text_lines c)) keeps in
    let (bodies, listing) = and_parts _ (nat_le (length c.lines) most_states && list_all (λ (l : StateLine). has_basis (counts_after no_parts c.parts).values l.mark) c.lines) counts in
    let (states, _) = and_parts (nat_le (length c.lines) most_states) (list_all (λ (l : StateLine). has_basis (counts_after no_parts c.parts).values l.mark) c.lines) listing in
    let (fronts, ordered) = and_parts (nat_le (length c.swaps) most_swaps && nat_le (length c.atoms) most_atoms) _ bodies in
    let (swaps, atoms) = and_parts (nat_le (length c.swaps) most_swaps) (nat_le (length c.atoms) most_atoms) fronts in
    omega (
      arith,
      ap length are,
      body_length c.swaps c.atoms c.parts c.lines,
      length-append (body_lines c.swaps c.atoms c.parts c.lines) (last (length c.lines) ∷ []),
      ordered_are_few c.parts ordered,
      leb-true (length c.swaps) most_swaps swaps,
      leb-true (length c.atoms) most_atoms atoms,
      leb-true (length c.lines) most_states states,
    )

-- ---- after the last line

something : (bytes more : List ℕ) → bytes ≢ [] → bytes ++ more ≢ []
something [] more some = λ same. some refl
something (byte ∷ bytes) more some = λ same. absurd (cc same)

pub trailing_reported : (before : List TextLine) → AreWhole before → (old bytes new : List ℕ) → new ≡ old ++ bytes → new ≢ [] → (more : List ℕ) → IsFaultAfter before (old ++ bytes ++ more) 40
trailing_reported before whole old bytes new grown some more =
    trailing whole (something (old ++ bytes) more (λ empty. some (grown ∙ empty)))

-- ---- what has been read

pub come_unless_ended : (at : Stage) (bytes : List ℕ) → at ≢ stage.Ended → come_at (place_of at) bytes ≡ is_ready bytes
come_unless_ended stage.Version bytes may_continue = refl
come_unless_ended (stage.Claim v) bytes may_continue = refl
come_unless_ended (stage.Constants v) bytes may_continue = refl
come_unless_ended (stage.Body b) bytes may_continue = refl
come_unless_ended stage.Ended bytes may_continue = absurd (may_continue refl)

pub prompt_unless_ended : (at : Stage) → at ≢ stage.Ended → (waited came : List ℕ) → IsPrompt is_ready waited came → IsPrompt (come_at (place_of at)) waited came
prompt_unless_ended at may_continue waited came prompt = λ some.
    let (earlier, piece, splits, short, nothing) = prompt some in
    (earlier, piece, splits, short, come_unless_ended at (waited ++ earlier) may_continue ∙ nothing)

-- ---- what is reported for a line

module _ {R : Type 0} (remaining : R → Option (List ℕ)) (old between : CertReader R) (before : List TextLine) where
  -- the reader after it has reported a fault
  abbrev pub failed : CertReader R
  failed = record { alloc = between.alloc; source = between.source; waiting = between.waiting; position = between.position; failed = true }

  reported_still : (fault : TextFault) → IsReportedOf remaining old between before fault → IsReportedOf remaining old failed before fault
  reported_still Truncated reported = reported
  reported_still _ reported = reported

  pub reported_answer : (fault : NextFault) (line : ℕ) → line ≡ length before + 1 → IsAdvance remaining old between before (Err fault)
      → IsAnswer remaining old failed before (Err (fault_at fault line))
  reported_answer (next.Text fault) line is reported = (is, reported_still fault reported)
  reported_answer next.Device line is reported = record { bytes = reported.bytes; consumed = reported.consumed; waits = reported.waits; nothing = reported.nothing }
  reported_answer next.NoMemory line is reported = tt

-- ---- the certificate that the returned lines begin

module _ {R : Type 0} (remaining : R → Option (List ℕ)) (old new : CertReader R) (before : List TextLine) (read : HasRead old before) where
  pub begun : (line : Option CertLine) → IsAdvance remaining old new before (Ok line) → HaveBegun before (Ok line)
  begun None over = begins before (place_of old.position.stage) read.place
  begun (Some line) handed = begins (before ++ text_line_of line ∷ []) (place_of new.position.stage) handed.read.place
