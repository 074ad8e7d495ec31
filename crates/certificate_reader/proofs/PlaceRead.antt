-- A line parsed at a stage, and what is reported for one that is not allowed there.
use Rattle.std.proofs.Common.{◌≡◌, ◌≢◌, ℕ, ◌≤◌, List, ◌++◌, codes, Some, refl, sym, ap, ◌∙◌, subst, arith}
use Rattle.std.specs.Prelude.{length, ◌&&◌, ◌==◌, Err, IsTrue, nat_le, nat_lt}
use Rattle.std.specs.Fmt.{decimal}
use Rattle.std.proofs.lemmas.Bool.{and_parts, eqb-true, leb-true, lt-ltb}
use Rattle.certificate_definitions.specs.Certificates.{Version, one, two, three, four, is_number}
use Rattle.certificate_definitions.specs.CertificateText.{Format, TextLine, version, claims, constant, swapped, atom, part, listed, last, is_line, line_text, most_swaps, most_atoms, most_states, version_number}
use Rattle.certificate_definitions.specs.CertificateMachine.{CertificatePlace, at_version, at_claim, at_constant, in_body, ended, no_format, no_body, format_at, swap_more, atom_more, part_more, state_more, swap_follows, atom_follows, part_follows, state_follows, next_place}
use Rattle.certificate_definitions.specs.Parts.{are_few, has_room}
use Rattle.certificate_definitions.proofs.Machine.{never, only_where}
use Rattle.certificate_reader.specs.Stages.{IsOver, IsReadAt, IsStep, IsWithin}
use Rattle.certificate_reader.specs.Parsing.{IsParsed}
use Rattle.certificate_reader.specs.declared.fault.NextFault.{NextFault}
use Rattle.certificate_reader.specs.declared.fault.NextFault.TheVariants.{Text, NoMemory}
use Rattle.certificate_reader.specs.declared.fault.TextFault.{TextFault}
use Rattle.certificate_reader.specs.declared.fault.TextFault.TheVariants as fault
use Rattle.certificate_reader.specs.Words.{line_head, line_rest}
use Rattle.certificate_reader.proofs.NumbersRead.{same_number}
use Rattle.certificate_reader.proofs.WordLemmas.{one_first}
use Rattle.certificate_reader.proofs.LineLemmas.{head_is_word, line_splits, some_same}
use Rattle.certificate_reader.proofs.LinesRead.{is_no_mark, is_no_part, unlike}
use Rattle.certificate_reader.proofs.OneLine.{one_line}

pub few_atoms : (place : CertificatePlace) → IsWithin place → (format_at place).atoms ≤ most_atoms
few_atoms at_version within = omega arith
few_atoms (at_claim v) within = omega arith
few_atoms (at_constant v) within = omega arith
few_atoms (in_body b) within =
    let front = (and_parts (nat_le b.format.atoms most_atoms && are_few b.parts) (nat_le b.states most_states) (and_parts (nat_le 1 b.format.weights && nat_le b.swaps most_swaps) _ within).1).0 in
    leb-true b.format.atoms most_atoms (and_parts (nat_le b.format.atoms most_atoms) (are_few b.parts) front).0
few_atoms ended within = omega arith

pub some_weights : (place : CertificatePlace) → IsWithin place → 1 ≤ (format_at place).weights
some_weights at_version within = omega arith
some_weights (at_claim v) within = omega arith
some_weights (at_constant v) within = omega arith
some_weights (in_body b) within = leb-true 1 b.format.weights (and_parts (nat_le 1 b.format.weights) (nat_le b.swaps most_swaps) (and_parts (nat_le 1 b.format.weights && nat_le b.swaps most_swaps) _ within).0).0
some_weights ended within = omega arith

-- a line that leads on is within the limits there
pub leads_line : (place : CertificatePlace) → IsWithin place → (line : TextLine) (next : CertificatePlace) → next_place place line ≡ Some next → IsTrue (is_line (format_at place) line)
leads_line at_version within (version w) next leads = refl
leads_line at_version within (claims claim) next leads = never next leads
leads_line at_version within (constant k) next leads = never next leads
leads_line at_version within (swapped names) next leads = never next leads
leads_line at_version within (atom a) next leads = never next leads
leads_line at_version within (part p) next leads = never next leads
leads_line at_version within (listed l) next leads = never next leads
leads_line at_version within (last count) next leads = never next leads
leads_line (at_claim v) within (version w) next leads = never next leads
leads_line (at_claim v) within (claims claim) next leads = (only_where (is_line (no_format v) (claims claim)) (at_constant v) next leads).0
leads_line (at_claim v) within (constant k) next leads = never next leads
leads_line (at_claim v) within (swapped names) next leads = never next leads
leads_line (at_claim v) within (atom a) next leads = never next leads
leads_line (at_claim v) within (part p) next leads = never next leads
leads_line (at_claim v) within (listed l) next leads = never next leads
leads_line (at_claim v) within (last count) next leads = never next leads
leads_line (at_constant v) within (version w) next leads = never next leads
leads_line (at_constant v) within (claims claim) next leads = never next leads
leads_line (at_constant v) within (constant k) next leads = (only_where (is_line (no_format v) (constant k)) (in_body (no_body v (length k))) next leads).0
leads_line (at_constant v) within (swapped names) next leads = never next leads
leads_line (at_constant v) within (atom a) next leads = never next leads
leads_line (at_constant v) within (part p) next leads = never next leads
leads_line (at_constant v) within (listed l) next leads = never next leads
leads_line (at_constant v) within (last count) next leads = never next leads
leads_line (in_body b) within (version w) next leads = never next leads
leads_line (in_body b) within (claims claim) next leads = never next leads
leads_line (in_body b) within (constant k) next leads = never next leads
leads_line (in_body b) within (swapped names) next leads = (and_parts (swap_follows b && nat_lt b.swaps most_swaps) (is_line b.format (swapped names)) (only_where (swap_follows b && nat_lt b.swaps most_swaps && is_line b.format (swapped names)) (in_body (swap_more b)) next leads).0).1
leads_line (in_body b) within (atom a) next leads = (and_parts (atom_follows b && nat_lt b.format.atoms most_atoms) (is_line b.format (atom a)) (only_where (atom_follows b && nat_lt b.format.atoms most_atoms && is_line b.format (atom a)) (in_body (atom_more b)) next leads).0).1
leads_line (in_body b) within (part p) next leads = (and_parts (part_follows p b && has_room b.parts p) (is_line b.format (part p)) (only_where (part_follows p b && has_room b.parts p && is_line b.format (part p)) (in_body (part_more p b)) next leads).0).1
leads_line (in_body b) within (listed l) next leads = (and_parts (state_follows l b && nat_lt b.states most_states) (is_line b.format (listed l)) (only_where (state_follows l b && nat_lt b.states most_states && is_line b.format (listed l)) (in_body (state_more b)) next leads).0).1
leads_line (in_body b) within (last count) next leads =
    lt-ltb count 1152921504606846976 (omega (arith, eqb-true count b.states (only_where (count == b.states) ended next leads).0, leb-true b.states most_states (and_parts _ (nat_le b.states most_states) (and_parts (nat_le 1 b.format.weights && nat_le b.swaps most_swaps) _ within).1).1))
leads_line ended within (version w) next leads = never next leads
leads_line ended within (claims claim) next leads = never next leads
leads_line ended within (constant k) next leads = never next leads
leads_line ended within (swapped names) next leads = never next leads
leads_line ended within (atom a) next leads = never next leads
leads_line ended within (part p) next leads = never next leads
leads_line ended within (listed l) next leads = never next leads
leads_line ended within (last count) next leads = never next leads

-- the line of a version is that of 1, 2, 3 or 4
version_rest : (line : TextLine) → line_head line ≡ codes "pddl-cert" → (v : Version) × (line_rest line ≡ Some (decimal (version_number v)))
version_rest (version v) head = (v, refl)
version_rest (claims claim) head = absurd (unlike (codes "claim") (codes "pddl-cert") refl head)
version_rest (constant k) head = absurd (unlike (codes "constant") (codes "pddl-cert") refl head)
version_rest (swapped names) head = absurd (unlike (codes "swap") (codes "pddl-cert") refl head)
version_rest (atom a) head = absurd (unlike (codes "atom") (codes "pddl-cert") refl head)
version_rest (part p) head = absurd (is_no_part (codes "pddl-cert") refl p head)
version_rest (last count) head = absurd (unlike (codes "end") (codes "pddl-cert") refl head)
version_rest (listed l) head = absurd (is_no_mark (codes "pddl-cert") refl l.mark head)

neither : (n : ℕ) → IsTrue (is_number n) → n ≢ 1 → n ≢ 2 → n ≢ 3 → n ≢ 4 → (v : Version) → decimal n ≡ decimal (version_number v) → ⊥
neither n is not_one not_two not_three not_four one same = not_one (same_number n 1 is refl same)
neither n is not_one not_two not_three not_four two same = not_two (same_number n 2 is refl same)
neither n is not_one not_two not_three not_four three same = not_three (same_number n 3 is refl same)
neither n is not_one not_two not_three not_four four same = not_four (same_number n 4 is refl same)

no_other_version : (line : TextLine) (n : ℕ) → IsTrue (is_number n) → n ≢ 1 → n ≢ 2 → n ≢ 3 → n ≢ 4 → codes "pddl-cert " ++ decimal n ≡ line_text line → ⊥
no_other_version line n is not_one not_two not_three not_four same =
    let both = one_first (codes "pddl-cert") (line_head line) (Some (decimal n)) (line_rest line) refl (head_is_word line) (same ∙ line_splits line) in
    let (v, rest) = version_rest line (sym both.0) in
    neither n is not_one not_two not_three not_four v (some_same (decimal n) (decimal (version_number v)) (both.1 ∙ rest))

-- what is reported for bytes that are not a line is reported at the stage
malformed_at : (place : CertificatePlace) → IsWithin place → (bytes : List ℕ) (f : Format) → f ≡ format_at place → IsParsed bytes f (Err (Text fault.Form))
    → IsReadAt place bytes (Err (Text fault.Form))
malformed_at place within bytes f f_is reported =
    let (never, other) = subst (λ f. IsParsed bytes f (Err (Text fault.Form))) f_is reported in (
      λ line next leads. never line (leads_line place within line next leads),
      λ line is over. never line is,
      λ at n is not_one not_two not_three not_four. other n is,
    )

-- the same for another fault of the bytes alone, except for another version, which is reported only for the first line
pub reported_at : (place : CertificatePlace) → IsWithin place → (bytes : List ℕ) (f : Format) → f ≡ format_at place
    → (why : NextFault) → why ≢ Text fault.Version → IsParsed bytes f (Err why) → IsReadAt place bytes (Err why)
reported_at place within bytes f f_is (Text fault.Version) other reported = absurd (other refl)
reported_at place within bytes f f_is (Text fault.Form) other reported = malformed_at place within bytes f f_is reported
reported_at place within bytes f f_is NoMemory other reported = tt
reported_at place within bytes f f_is _ other reported = absurd reported

module _ (place : CertificatePlace) (within : IsWithin place) (line : TextLine) (is : IsTrue (is_line (format_at place) line)) (bytes : List ℕ) (text : line_text line ≡ bytes) where
  only_line : (other : TextLine) → IsTrue (is_line (format_at place) other) → line_text other ≡ bytes → other ≡ line
  only_line other other_is same = one_line (format_at place) (few_atoms place within) other line other_is is (same ∙ sym text)

  -- the fault of a line at a stage is reported for its bytes
  pub reported_after : (why : TextFault) → IsStep place line (Err why) → IsReadAt place bytes (Err (Text why))
  reported_after fault.Limit over = (line, is, over, text)
  reported_after fault.Form (nowhere, within_limits) = (
    λ other next leads same.
        let here = only_line other (leads_line place within other next leads) same in
        never next (sym nowhere ∙ ap (next_place place) (sym here) ∙ leads),
    λ other other_is over same. within_limits (subst (IsOver place) (only_line other other_is same) over),
    λ at n n_is not_one not_two not_three not_four same. no_other_version line n n_is not_one not_two not_three not_four (same ∙ sym text),
  )
  reported_after _ reported = absurd reported
