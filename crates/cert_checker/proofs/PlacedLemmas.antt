-- What comes before a line of a certificate.
use Rattle.std.proofs.Common.{◌≡◌, ℕ, suc, ◌+◌, ◌≤◌, Bool, true, List, [], ◌∷◌, ◌++◌, map, length, Some, refl, sym, ap, ◌∙◌, subst, append-nil, true≢false, arith}
use Rattle.std.specs.Prelude.{All, ◌&&◌, ◌==◌, nat_lt}
use Rattle.std.specs.List.{list_all}
use Rattle.std.proofs.lemmas.Bool.{and_parts, eqb-true, ltb-true}
use Rattle.std.proofs.lemmas.List.Elements.{filter_map-append}
use Rattle.model.specs.Task.{Atom, Task}
use Rattle.model.specs.Claims.{Claim}
use Rattle.certificate_definitions.specs.Certificates.{StateLine, is_mark, is_number, rise}
use Rattle.certificate_definitions.specs.CertificateChecking.{IsCut}
use Rattle.certificate_definitions.specs.CertificateText.{NamedAtom, NamedCertificate, TextLine, version, claims, constant, swapped, atom, part, listed, last, is_line, most_swaps, most_atoms, most_states, text_lines, AreWhole, BeginCertificate, Beginning}
use Rattle.certificate_definitions.specs.Parts.{has_room, how_many, may_follow}
use Rattle.certificate_definitions.specs.CertificateNames.{AllName}
use Rattle.certificate_definitions.specs.CertificateMachine.{Body, CertificatePlace, at_version, at_claim, at_constant, in_body, ended, swap_follows, swap_more, atom_follows, atom_more, next_place, part_follows, state_follows, part_more, state_more}
use Rattle.certificate_definitions.proofs.Beginnings.{atoms_of_body, body_lines, states_of_body, swaps_of_body, parts_of_body}
use Rattle.certificate_definitions.proofs.Machine.{ComesBefore, never, only_where, place_of_beginning, place_same, occurs}
use Rattle.certificate_reader.proofs.FaultsRead.{one_line_after}
use Rattle.certificate_reader.specs.declared.line.CertLine.{CertLine}
use Rattle.certificate_reader.specs.declared.line.CertLine.TheVariants as code
use Rattle.certificate_reader.specs.declared.line.StateLine.{StateLine as StateLine_}
use Rattle.certificate_reader.specs.Lines.{text_line_of}
use Rattle.packed_state.specs.Sets.{set_of}
use Rattle.certificate.specs.ListedSets.{Marked, marked}
use Rattle.cert_checker.specs.Given.{Heading, HaveGiven, atom_in, atoms_given, is_body, state_in, states_given, swap_in, swaps_given}
use Rattle.certificate_definitions.specs.CertificateLines.{part_in, parts_given}
use Rattle.cert_checker.specs.Listed.{HaveListed, IsFit}
use Rattle.cert_checker.proofs.GivenLemmas.{begin_front, placed, states_same, reported_last}
use Rattle.cert_checker.proofs.SplitLemmas.{few_atoms_kept}

-- ---- what whole lists give

pub swaps_of_text : (c : NamedCertificate) → swaps_given (text_lines c) ≡ c.swaps
swaps_of_text c =
    filter_map-append swap_in (body_lines c.swaps c.atoms c.parts c.lines) (last (length c.lines) ∷ []) ∙ append-nil (swaps_given (body_lines c.swaps c.atoms c.parts c.lines))
    ∙ swaps_of_body c.swaps c.atoms c.parts c.lines

pub atoms_of_text : (c : NamedCertificate) → atoms_given (text_lines c) ≡ c.atoms
atoms_of_text c =
    filter_map-append atom_in (body_lines c.swaps c.atoms c.parts c.lines) (last (length c.lines) ∷ []) ∙ append-nil (atoms_given (body_lines c.swaps c.atoms c.parts c.lines))
    ∙ atoms_of_body c.swaps c.atoms c.parts c.lines

pub parts_of_text : (c : NamedCertificate) → parts_given (text_lines c) ≡ c.parts
parts_of_text c =
    filter_map-append part_in (body_lines c.swaps c.atoms c.parts c.lines) (last (length c.lines) ∷ []) ∙ append-nil (parts_given (body_lines c.swaps c.atoms c.parts c.lines))
    ∙ parts_of_body c.swaps c.atoms c.parts c.lines

pub states_of_text : (c : NamedCertificate) → states_given (text_lines c) ≡ c.lines
states_of_text c =
    filter_map-append state_in (body_lines c.swaps c.atoms c.parts c.lines) (last (length c.lines) ∷ []) ∙ append-nil (states_given (body_lines c.swaps c.atoms c.parts c.lines))
    ∙ states_of_body c.swaps c.atoms c.parts c.lines

-- ---- a line of the body

pub named_length : (task : Task) (names : List NamedAtom) (atoms : List Atom) → AllName task names atoms → length names ≡ length atoms
named_length task [] [] are = refl
named_length task [] (a ∷ atoms) are = absurd are
named_length task (n ∷ names) [] are = absurd are
named_length task (n ∷ names) (a ∷ atoms) (here, are) = ap suc (named_length task names atoms are)

-- a line that follows some can be listed
pub fit_there : (before : List TextLine) (line : TextLine) → BeginCertificate (before ++ line ∷ []) → (sets : List (List Bool)) → length sets ≡ length (states_given before)
    → IsFit (length (atoms_given before)) sets line
fit_there before line begun sets = let at = placed before line begun in by_line line at.place at.occurs at.next at.leads
  where
    by_line : (line : TextLine) (place : CertificatePlace) → ComesBefore place before → (next : CertificatePlace) → next_place place line ≡ Some next → length sets ≡ length (states_given before)
        → IsFit (length (atoms_given before)) sets line
    by_line (version v) place occurs next leads count = tt
    by_line (claims claim) place occurs next leads count = tt
    by_line (constant k) place occurs next leads count = tt
    by_line (swapped names) place occurs next leads count = tt
    by_line (atom a) place occurs next leads count = tt
    by_line (part p) place occurs next leads count = tt
    by_line (last n) place occurs next leads count = tt
    by_line (listed l) at_version occurs next leads count = never next leads
    by_line (listed l) (at_claim v) occurs next leads count = never next leads
    by_line (listed l) (at_constant v) occurs next leads count = never next leads
    by_line (listed l) ended occurs next leads count = never next leads
    by_line (listed l) (in_body b) body next leads count =
        let (holds, _) = only_where (state_follows l b && nat_lt b.states most_states && is_line b.format (listed l)) (in_body (state_more b)) next leads in
        let (counts, is) = and_parts (state_follows l b && nat_lt b.states most_states) (is_line b.format (listed l)) holds in
        let (_, below) = and_parts (state_follows l b) (nat_lt b.states most_states) counts in
        let rising : rise b.format.atoms 0 l.atoms ≡ true = (and_parts (is_number l.cost && is_mark b.format.version l.mark) (rise b.format.atoms 0 l.atoms) is).1 in
        let g : Beginning = body.beginning in
        let atoms : length (atoms_given before) ≡ b.format.atoms =
        ap (λ lines. length (atoms_given lines)) body.lines_are ∙ ap length (atoms_of_body g.swaps g.atoms g.parts g.states) ∙ ap (λ (b : Body). b.format.atoms) body.body_is in
        let states : length (states_given before) ≡ b.states =
        ap (λ lines. length (states_given lines)) body.lines_are ∙ ap length (states_of_body g.swaps g.atoms g.parts g.states) ∙ ap (λ (b : Body). b.states) body.body_is in
        (subst (λ n. rise n 0 l.atoms ≡ true) (sym atoms) rising, omega (arith, count, states, ltb-true b.states most_states below))

-- a line after one of the body is one of the body
pub body_follows : (before : List TextLine) (line next : TextLine) → BeginCertificate ((before ++ line ∷ []) ++ next ∷ []) → is_body line ≡ true → is_body next ≡ true
body_follows before line next begun body =
    let first = placed before line (begin_front (before ++ line ∷ []) next begun) in
    let second = placed (before ++ line ∷ []) next begun in
    let same : second.place ≡ first.next = place_same second.place first.next (sym second.at ∙ one_line_after before first.place first.next line first.at first.leads) in
    by_line line first.place first.next first.leads body next second.next (subst (λ place. next_place place next ≡ Some second.next) same second.leads)
  where
    some_state : (b : Body) → ((b.states + 1) == 0) ≡ true → ⊥
    some_state b none = omega (arith, eqb-true (b.states + 1) 0 none)

    after_state : (b : Body) (next : TextLine) (after : CertificatePlace) → next_place (in_body (state_more b)) next ≡ Some after → is_body next ≡ true
    after_state b (version w) after leads = never after leads
    after_state b (claims claim) after leads = never after leads
    after_state b (constant k) after leads = never after leads
    after_state b (swapped names) after leads =
        let m : Body = state_more b in
        let (holds, _) = only_where (swap_follows m && nat_lt m.swaps most_swaps && is_line m.format (swapped names)) (in_body (swap_more m)) after leads in
        let (counts, _) = and_parts (swap_follows m && nat_lt m.swaps most_swaps) (is_line m.format (swapped names)) holds in
        let (follows, _) = and_parts (swap_follows m) (nat_lt m.swaps most_swaps) counts in
        absurd (some_state b (and_parts ((m.format.atoms == 0) && (how_many m.parts == 0)) (m.states == 0) follows).1)
    after_state b (atom a) after leads =
        let m : Body = state_more b in
        let (holds, _) = only_where (atom_follows m && nat_lt m.format.atoms most_atoms && is_line m.format (atom a)) (in_body (atom_more m)) after leads in
        let (counts, _) = and_parts (atom_follows m && nat_lt m.format.atoms most_atoms) (is_line m.format (atom a)) holds in
        let (follows, _) = and_parts (atom_follows m) (nat_lt m.format.atoms most_atoms) counts in
        absurd (some_state b (and_parts (how_many m.parts == 0) (m.states == 0) follows).1)
    after_state b (part p) after leads =
        let m : Body = state_more b in
        let (holds, _) = only_where (part_follows p m && has_room m.parts p && is_line m.format (part p)) (in_body (part_more p m)) after leads in
        let (counts, _) = and_parts (part_follows p m && has_room m.parts p) (is_line m.format (part p)) holds in
        let (follows, _) = and_parts (part_follows p m) (has_room m.parts p) counts in
        absurd (some_state b (and_parts (m.states == 0) (may_follow m.parts p) follows).0)
    after_state b (listed l) after leads = refl
    after_state b (last count) after leads = refl

    after_last : (next : TextLine) (after : CertificatePlace) → next_place ended next ≡ Some after → is_body next ≡ true
    after_last (version v) after leads = never after leads
    after_last (claims claim) after leads = never after leads
    after_last (constant k) after leads = never after leads
    after_last (swapped names) after leads = never after leads
    after_last (atom a) after leads = never after leads
    after_last (part p) after leads = never after leads
    after_last (listed l) after leads = never after leads
    after_last (last count) after leads = never after leads

    by_line : (line : TextLine) (place then : CertificatePlace) → next_place place line ≡ Some then → is_body line ≡ true → (next : TextLine) (after : CertificatePlace) → next_place then next ≡ Some after → is_body next ≡ true
    by_line (version v) place then leads body next after leads_on = absurd (true≢false (sym body))
    by_line (claims claim) place then leads body next after leads_on = absurd (true≢false (sym body))
    by_line (constant k) place then leads body next after leads_on = absurd (true≢false (sym body))
    by_line (swapped names) place then leads body next after leads_on = absurd (true≢false (sym body))
    by_line (atom a) place then leads body next after leads_on = absurd (true≢false (sym body))
    by_line (part p) place then leads body next after leads_on = absurd (true≢false (sym body))
    by_line (listed l) at_version then leads body next after leads_on = never then leads
    by_line (listed l) (at_claim v) then leads body next after leads_on = never then leads
    by_line (listed l) (at_constant v) then leads body next after leads_on = never then leads
    by_line (listed l) (in_body b) then leads body next after leads_on =
        let same = (only_where (state_follows l b && nat_lt b.states most_states && is_line b.format (listed l)) (in_body (state_more b)) then leads).1 in
        after_state b next after (subst (λ place. next_place place next ≡ Some after) (sym same) leads_on)
    by_line (listed l) ended then leads body next after leads_on = never then leads
    by_line (last count) at_version then leads body next after leads_on = never then leads
    by_line (last count) (at_claim v) then leads body next after leads_on = never then leads
    by_line (last count) (at_constant v) then leads body next after leads_on = never then leads
    by_line (last count) (in_body b) then leads body next after leads_on =
        let same = (only_where (count == b.states) ended then leads).1 in
        after_last next after (subst (λ place. next_place place next ≡ Some after) (sym same) leads_on)
    by_line (last count) ended then leads body next after leads_on = never then leads

-- a line of the body other than a state line gives nothing
pub last_reports : (task : Task) (before : List TextLine) (heading : Heading) (claim : Claim) (width : ℕ) (marks : List Marked) (sets : List (List Bool)) (line : CertLine)
    → ((l : StateLine_) → line ≡ code.Listed l → ⊥) → is_body (text_line_of line) ≡ true → HaveGiven task before heading → HaveListed before claim width marks sets
    → HaveGiven task (before ++ text_line_of line ∷ []) heading × HaveListed (before ++ text_line_of line ∷ []) claim width marks sets
last_reports task before heading claim width marks sets (code.Head v) other body reported have = absurd (true≢false (sym body))
last_reports task before heading claim width marks sets (code.Claim c) other body reported have = absurd (true≢false (sym body))
last_reports task before heading claim width marks sets (code.Constant k) other body reported have = absurd (true≢false (sym body))
last_reports task before heading claim width marks sets (code.Swap objects) other body reported have = absurd (true≢false (sym body))
last_reports task before heading claim width marks sets (code.Weight weights predicate objects) other body reported have = absurd (true≢false (sym body))
last_reports task before heading claim width marks sets (code.Part p) other body reported have = absurd (true≢false (sym body))
last_reports task before heading claim width marks sets (code.Listed l) other body reported have = absurd (other l refl)
last_reports task before heading claim width marks sets (code.Last n) other body reported have =
    let same : states_given (before ++ last n ∷ []) ≡ states_given before = states_same before (last n) refl in (
      reported_last task before heading reported n,
      record {
        rising = subst (λ states. list_all (λ (l : StateLine). rise width 0 l.atoms) states ≡ true) (sym same) have.rising;
        marks_are = have.marks_are ∙ ap (map marked) (sym same);
        allowed = λ is_none. subst (All (λ (l : StateLine). ¬ IsCut l.mark)) (sym same) (have.allowed is_none);
        sets_are = have.sets_are ∙ ap (map (λ (l : StateLine). set_of width l.atoms)) (sym same);
      },
    )

-- the number of atoms is limited
pub few_atoms_reported : (lines : List TextLine) → BeginCertificate lines → length (atoms_given lines) ≤ most_atoms
few_atoms_reported lines begun = let (place, leads) = place_of_beginning lines begun in by_place place (occurs lines place leads)
  where
    whole_atoms : AreWhole lines → length (atoms_given lines) ≤ most_atoms
    whole_atoms (c, keeps, are) =
        let atoms : length (atoms_given lines) ≡ length c.atoms = ap (λ lines. length (atoms_given lines)) (sym are) ∙ ap length (atoms_of_text c) in
        omega (arith, atoms, few_atoms_kept c keeps)

    by_place : (place : CertificatePlace) → ComesBefore place lines → length (atoms_given lines) ≤ most_atoms
    by_place at_version are = omega (arith, ap (λ lines. length (atoms_given lines)) are)
    by_place (at_claim v) are = omega (arith, ap (λ lines. length (atoms_given lines)) are)
    by_place (at_constant v) (claim, is, are) = omega (arith, ap (λ lines. length (atoms_given lines)) are)
    by_place (in_body b) body =
        let g : Beginning = body.beginning in
        let atoms : length (atoms_given lines) ≡ length g.atoms = ap (λ lines. length (atoms_given lines)) body.lines_are ∙ ap length (atoms_of_body g.swaps g.atoms g.parts g.states) in
        omega (arith, atoms, body.keeps.few_atoms)
    by_place ended whole = whole_atoms whole
