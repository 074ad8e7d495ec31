-- A text is at most one certificate.
use Rattle.std.proofs.Common.{◌≡◌, ℕ, ◌+◌, ◌≤◌, Bool, true, false, not, List, [], ◌∷◌, ◌++◌, codes, length, Option, None, Some, refl, sym, ap, ◌∙◌, subst, append_assoc, arith}
use Rattle.std.specs.Prelude.{◌&&◌, ◌==◌, suc, ℤ, pos, negsuc, IsTrue, nat_le, nat_lt}
use Rattle.std.specs.Char.{is_ascii_alphabetic}
use Rattle.std.specs.Fmt.{decimal, signed_decimal}
use Rattle.std.specs.List.{flat_map, list_all}
use Rattle.std.specs.Option.{option_and_then}
use Rattle.std.specs.Str.Parse.{AllDigits}
use Rattle.std.proofs.lemmas.Bool.{and_parts, eqb-true, leb-true, ltb-true, ne_eqb}
use Rattle.std.proofs.lemmas.Fmt.{decimal_is_IsNumeral}
use Rattle.std.proofs.lemmas.List.Folds.{list_all-append}
use Rattle.std.proofs.lemmas.Str.Parse.{tells_digits}
use Rattle.model.specs.Words.{is_name, is_name_byte}
use Rattle.model.specs.PlanWriting.{is_lower_name}
use Rattle.model.specs.Claims.{bound, none}
use Rattle.certificate_definitions.specs.Evidence.{of_all, landmark, LineMark, expanded, cut, dead}
use Rattle.certificate_definitions.specs.Certificates.{Version, one, two, three, four, is_basis, is_mark, is_number, is_weight, are_weights, has_exchanges, has_landmarks, has_tables, rise}
use Rattle.lower_bounds.specs.LandmarkLines.{Share, zone, value, is_zone, is_value, most_values, most_zones, negated_text, number_text, share_text}
use Rattle.lower_bounds.specs.LandmarkLines as landmarks
use Rattle.certificate_definitions.specs.CertificateText.{scope, row, tabled, landmark_line, Part, part_text, is_part, Format, NamedCertificate, TextLine, version, claims, constant, swapped, atom, part, listed, last, after_blank, are_exchanged, are_paired, differ, is_weight_count, is_line, line_text, mark_text, weights_text, numbers_text, text_of, text_lines, IsCertificateText, longest_line, most_atoms}
use Rattle.certificate_definitions.specs.CertificateMachine.{CertificatePlace, at_version, ended, format_at, next_place, place_from}
use Rattle.certificate_definitions.proofs.Beginnings.{one_whole_text}
use Rattle.certificate_definitions.proofs.Machine.{end_of_whole, never, place_same}
use Rattle.certificate_reader.specs.Words.{are_lower, may_be_share}
use Rattle.certificate_reader.proofs.NumberLemmas.{is_below}
use Rattle.certificate_reader.proofs.NumbersRead.{few_are_numbers, rise_parts}
use Rattle.certificate_reader.proofs.WordLemmas.{same_head, same_tail}
use Rattle.certificate_reader.specs.Stages.{IsWithin}
use Rattle.certificate_reader.proofs.LandmarksRead.{share_numbers, value_may_be, value_within, zone_rises}
use Rattle.certificate_reader.proofs.LinesRead.{dead_by_allowed, is_small}
use Rattle.certificate_reader.proofs.OneLine.{one_line}
use Rattle.certificate_reader.proofs.PlaceRead.{few_atoms, leads_line}
use Rattle.certificate_reader.proofs.ReaderLemmas.{leads_within}

-- ---- a line contains no LF

abbrev is_no_end : ℕ → Bool
is_no_end byte = not (byte == 10)

abbrev pub is_one_line : List ℕ → Bool
is_one_line = list_all is_no_end

both : (a b : List ℕ) → is_one_line a ≡ true → is_one_line b ≡ true → is_one_line (a ++ b) ≡ true
both a b x y = list_all-append is_no_end a b ∙ (λ i. x i && y i)

digits_in_one : (digits : List ℕ) → AllDigits 10 digits → is_one_line digits ≡ true
digits_in_one [] all = refl
digits_in_one (digit ∷ digits) all =
    let (here, more) = tells_digits.parts digit digits all in
    ap (λ b. not b && is_one_line digits) (ne_eqb digit 10 (λ same. omega (arith, same, here.0))) ∙ digits_in_one digits more

number_in_one : (n : ℕ) → IsTrue (is_number n) → is_one_line (decimal n) ≡ true
number_in_one n is = digits_in_one (decimal n) ((decimal_is_IsNumeral n (let below = is_below n is in omega (arith, below))).0.1)

-- so is a constant or a weight, with its sign
weight_in_one : (w : ℤ) → IsTrue (is_weight w) → is_one_line (signed_decimal w) ≡ true
weight_in_one (pos n) is = digits_in_one (decimal n) ((decimal_is_IsNumeral n (let most = leb-true n 2147483647 is in omega (arith, most))).0.1)
weight_in_one (negsuc n) is = digits_in_one (decimal (suc n)) ((decimal_is_IsNumeral (suc n) (let most = ltb-true n 2147483647 is in omega (arith, most))).0.1)

no_end_byte : (test : ℕ → Bool) → test 10 ≡ false → (byte : ℕ) → test byte ≡ true → is_no_end byte ≡ true
no_end_byte test fails byte passes = by_test (byte == 10) refl
  where
    by_test : (b : Bool) → (byte == 10) ≡ b → not b ≡ true
    by_test false other = refl
    by_test true is = absurd (cc (sym fails ∙ ap test (sym (eqb-true byte 10 is)) ∙ passes))

name_bytes_in_one : (bytes : List ℕ) → IsTrue (list_all is_name_byte bytes) → is_one_line bytes ≡ true
name_bytes_in_one [] all = refl
name_bytes_in_one (byte ∷ bytes) all =
    let (here, more) = and_parts (is_name_byte byte) (list_all is_name_byte bytes) all in
    ap (λ b. b && is_one_line bytes) (no_end_byte is_name_byte refl byte here) ∙ name_bytes_in_one bytes more

name_in_one : (name : List ℕ) → IsTrue (is_name name) → is_one_line name ≡ true
name_in_one [] is = refl
name_in_one (byte ∷ bytes) is =
    let (here, more) = and_parts (is_ascii_alphabetic byte) (list_all is_name_byte bytes) is in
    ap (λ b. b && is_one_line bytes) (no_end_byte is_ascii_alphabetic refl byte here) ∙ name_bytes_in_one bytes more

lower_in_one : (name : List ℕ) → IsTrue (is_lower_name name) → is_one_line name ≡ true
lower_in_one name is = name_in_one name (and_parts _ _ (and_parts _ _ is).0).0

names_in_one : (names : List (List ℕ)) → IsTrue (list_all is_lower_name names) → is_one_line (flat_map after_blank names) ≡ true
names_in_one [] all = refl
names_in_one (name ∷ names) all =
    let (here, more) = and_parts (is_lower_name name) (list_all is_lower_name names) all in
    both (after_blank name) (flat_map after_blank names) (both (codes " ") name refl (lower_in_one name here)) (names_in_one names more)

numbers_in_one : (count least : ℕ) (numbers : List ℕ) → count ≤ most_atoms → rise count least numbers ≡ true
    → is_one_line (flat_map (λ (number : ℕ). after_blank (decimal number)) numbers) ≡ true
numbers_in_one count least [] few all = refl
numbers_in_one count least (n ∷ numbers) few all =
    let (above, below, more) = rise_parts count least n numbers all in
    both (after_blank (decimal n)) (flat_map (λ (number : ℕ). after_blank (decimal number)) numbers)
    (both (codes " ") (decimal n) refl (number_in_one n (few_are_numbers count n (omega (arith, few)) below))) (numbers_in_one count (n + 1) numbers few more)

number_text_in_one : (n : ℕ) → IsTrue (is_number n) → is_one_line (number_text n) ≡ true
number_text_in_one n is = both (codes " ") (decimal n) refl (number_in_one n is)

basis_is_number : (v : Version) (number : ℕ) → IsTrue (is_basis v (landmark number)) → IsTrue (is_number number)
basis_is_number v number is = is_small number (and_parts (has_landmarks v) (nat_lt number most_values) is).1

state_in_one : (f : Format) → f.atoms ≤ most_atoms → (cost : ℕ) (mark : LineMark) (numbers : List ℕ)
    → IsTrue (is_line f (listed (record { cost = cost; mark = mark; atoms = numbers }))) → is_one_line (line_text (listed (record { cost = cost; mark = mark; atoms = numbers }))) ≡ true
state_in_one f few cost mark numbers is =
    let (first, rising) = and_parts (is_number cost && is_mark f.version mark) (rise f.atoms 0 numbers) is in
    let (cost_is, mark_is) = and_parts (is_number cost) (is_mark f.version mark) first in
    both (mark_text mark cost) (flat_map (λ (number : ℕ). after_blank (decimal number)) numbers) (by_mark mark cost_is mark_is) (numbers_in_one f.atoms 0 numbers few rising)
  where
    by_mark : (mark : LineMark) → IsTrue (is_number cost) → IsTrue (is_mark f.version mark) → is_one_line (mark_text mark cost) ≡ true
    by_mark expanded cost_is mark_is = both (codes "open ") (decimal cost) refl (number_in_one cost cost_is)
    by_mark (dead of_all) cost_is mark_is = both (codes "dead ") (decimal cost) refl (number_in_one cost cost_is)
    by_mark (cut of_all least) cost_is least_is =
        both (codes "cut " ++ decimal cost) (after_blank (decimal least)) (both (codes "cut ") (decimal cost) refl (number_in_one cost cost_is))
        (both (codes " ") (decimal least) refl (number_in_one least least_is))
    by_mark (cut (landmark number) least) cost_is mark_is =
        let (given, least_is) = and_parts (is_basis f.version (landmark number)) (is_number least) mark_is in
        both (codes "cut-by") (number_text number ++ (number_text cost ++ number_text least)) refl
        (both (number_text number) (number_text cost ++ number_text least) (number_text_in_one number (basis_is_number f.version number given))
        (both (number_text cost) (number_text least) (number_text_in_one cost cost_is) (number_text_in_one least least_is)))
    by_mark (dead (landmark number)) cost_is mark_is =
        both (codes "dead-by") (number_text number ++ number_text cost) refl
        (both (number_text number) (number_text cost) (number_text_in_one number (basis_is_number f.version number (dead_by_allowed f.version number mark_is))) (number_text_in_one cost cost_is))

version_in_one : (v : Version) → is_one_line (line_text (version v)) ≡ true
version_in_one one = both (codes "pddl-cert ") (decimal 1) refl (number_in_one 1 refl)
version_in_one two = both (codes "pddl-cert ") (decimal 2) refl (number_in_one 2 refl)
version_in_one three = both (codes "pddl-cert ") (decimal 3) refl (number_in_one 3 refl)
version_in_one four = both (codes "pddl-cert ") (decimal 4) refl (number_in_one 4 refl)

weights_in_one : (weights : List ℤ) → IsTrue (list_all is_weight weights) → is_one_line (weights_text weights) ≡ true
weights_in_one [] all = refl
weights_in_one (w ∷ weights) all =
    let (here, more) = and_parts (is_weight w) (list_all is_weight weights) all in
    both (after_blank (signed_decimal w)) (weights_text weights) (both (codes " ") (signed_decimal w) refl (weight_in_one w here)) (weights_in_one weights more)

negated_in_one : (count : ℕ) (negated : List ℕ) → count ≤ most_atoms → rise count 0 negated ≡ true → is_one_line (negated_text negated) ≡ true
negated_in_one count [] few rising = refl
negated_in_one count (n ∷ others) few rising = both (codes " not") (landmarks.numbers_text (n ∷ others)) refl (numbers_in_one count 0 (n ∷ others) few rising)

shares_in_one : (shares : List Share) → IsTrue (list_all may_be_share shares) → is_one_line (flat_map share_text shares) ≡ true
shares_in_one [] all = refl
shares_in_one (s ∷ shares) all =
    let (here, more) = and_parts (may_be_share s) (list_all may_be_share shares) all in
    let (zone_is, weight_is) = share_numbers s here in
    both (share_text s) (flat_map share_text shares) (both (number_text s.zone) (number_text s.weight) (number_text_in_one s.zone zone_is) (number_text_in_one s.weight weight_is)) (shares_in_one shares more)

part_in_one : (f : Format) → f.atoms ≤ most_atoms → (p : Part) → IsTrue (is_part f p) → is_one_line (part_text p) ≡ true
part_in_one f few (tabled (scope s)) is =
    let (rising, some) = and_parts (rise f.atoms 0 s) (nat_le 1 (length s)) (and_parts (has_tables f.version) _ is).1 in
    both (codes "table") (numbers_text s) refl (numbers_in_one f.atoms 0 s few rising)
part_in_one f few (tabled (row r)) is =
    let (weights, rising) = and_parts (are_weights f.weights r.weights) (rise f.atoms 0 r.atoms) (and_parts (has_tables f.version) _ is).1 in
    both (codes "row" ++ weights_text r.weights) (numbers_text r.atoms)
    (both (codes "row") (weights_text r.weights) refl (weights_in_one r.weights (and_parts (length r.weights == f.weights) (list_all is_weight r.weights) weights).1))
    (numbers_in_one f.atoms 0 r.atoms few rising)
part_in_one f few (landmark_line (zone z)) is =
    let (rises, negated) = zone_rises f.atoms z (and_parts (has_landmarks f.version) (is_zone f.atoms z) is).1 in
    both (codes "zone") (landmarks.numbers_text z.atoms ++ negated_text z.negated) refl
    (both (landmarks.numbers_text z.atoms) (negated_text z.negated) (numbers_in_one f.atoms 0 z.atoms few rises) (negated_in_one f.atoms z.negated few negated))
part_in_one f few (landmark_line (value shares)) is =
    both (codes "marks") (flat_map share_text shares) refl (shares_in_one shares (value_may_be shares (value_within f shares is).1))

pub line_in_one : (f : Format) → f.atoms ≤ most_atoms → (line : TextLine) → IsTrue (is_line f line) → is_one_line (line_text line) ≡ true
line_in_one f few (version w) is = version_in_one w
line_in_one f few (claims (bound n)) is = both (codes "claim bound ") (decimal n) refl (number_in_one n is)
line_in_one f few (claims none) is = refl
line_in_one f few (constant k) is = both (codes "constant") (weights_text k) refl (weights_in_one k (and_parts (is_weight_count f.version (length k)) (list_all is_weight k) is).1)
line_in_one f few (swapped names) is =
    let lower = (and_parts (nat_le 2 (length names) && are_paired names && differ names) (list_all is_lower_name names)
    (and_parts (has_exchanges f.version) (are_exchanged names) (and_parts (has_exchanges f.version && are_exchanged names) (nat_le (length (line_text (swapped names))) longest_line) is).0).1).1 in
    both (codes "swap") (flat_map after_blank names) refl (names_in_one names lower)
line_in_one f few (atom a) is =
    let (weights, names) = and_parts (are_weights f.weights a.weights) (are_lower a.atom) (and_parts (are_weights f.weights a.weights && are_lower a.atom) (nat_le _ longest_line) is).0 in
    let (predicate, objects) = and_parts (is_lower_name a.atom.predicate) (list_all is_lower_name a.atom.objects) names in
    let start : List ℕ = codes "atom" ++ weights_text a.weights in
    both (((start ++ codes " (") ++ a.atom.predicate) ++ flat_map after_blank a.atom.objects) (codes ")")
    (both ((start ++ codes " (") ++ a.atom.predicate) (flat_map after_blank a.atom.objects)
    (both (start ++ codes " (") a.atom.predicate (both start (codes " (") (both (codes "atom") (weights_text a.weights) refl (weights_in_one a.weights (and_parts (length a.weights == f.weights) (list_all is_weight a.weights) weights).1)) refl) (lower_in_one a.atom.predicate predicate))
    (names_in_one a.atom.objects objects)) refl
line_in_one f few (part p) is = part_in_one f few p is
line_in_one f few (listed l) is = state_in_one f few l.cost l.mark l.atoms is
line_in_one f few (last n) is = both (codes "end ") (decimal n) refl (number_in_one n is)

-- ---- lines one after another

ends_here : (byte : ℕ) (bytes : List ℕ) → is_one_line (byte ∷ bytes) ≡ true → byte ≡ 10 → ⊥
ends_here byte bytes is same = absurd (cc (sym (and_parts (is_no_end byte) (is_one_line bytes) is).0 ∙ ap is_no_end same))

pub one_whole : (a b rest following : List ℕ) → is_one_line a ≡ true → is_one_line b ≡ true → a ++ 10 ∷ rest ≡ b ++ 10 ∷ following → (a ≡ b) × (rest ≡ following)
one_whole [] [] rest following x y same = (refl, same_tail 10 10 rest following same)
one_whole [] (d ∷ b) rest following x y same = absurd (ends_here d b y (sym (same_head 10 d rest (b ++ 10 ∷ following) same)))
one_whole (c ∷ a) [] rest following x y same = absurd (ends_here c a x (same_head c 10 (a ++ 10 ∷ rest) following same))
one_whole (c ∷ a) (d ∷ b) rest following x y same =
    let (lines, rests) = one_whole a b rest following (and_parts (is_no_end c) (is_one_line a) x).1 (and_parts (is_no_end d) (is_one_line b) y).1
    (same_tail c d (a ++ 10 ∷ rest) (b ++ 10 ∷ following) same) in
    ((λ i. same_head c d (a ++ 10 ∷ rest) (b ++ 10 ∷ following) same i ∷ lines i), rests)

not_nothing : (a rest : List ℕ) → [] ≡ a ++ 10 ∷ rest → ⊥
not_nothing [] rest same = absurd (cc same)
not_nothing (b ∷ a) rest same = absurd (cc same)

line_first : (line : TextLine) (lines : List TextLine) → text_of (line ∷ lines) ≡ line_text line ++ 10 ∷ text_of lines
line_first line lines = append_assoc (line_text line) (10 ∷ []) (text_of lines)

-- ---- certificates

-- a line that leads to the end leads to a state first
step_of : (next : Option CertificatePlace) (lines : List TextLine) → option_and_then (λ next. place_from next lines) next ≡ Some ended
    → (place : CertificatePlace) × (next ≡ Some place) × (place_from place lines ≡ Some ended)
step_of None lines leads = never ended leads
step_of (Some place) lines leads = (place, refl, leads)

one_list_of_lines : (lines others : List TextLine) (place : CertificatePlace) → IsWithin place → place_from place lines ≡ Some ended → place_from place others ≡ Some ended
    → text_of lines ≡ text_of others → lines ≡ others
one_list_of_lines [] [] place within h g same = refl
one_list_of_lines [] (m ∷ others) place within h g same = absurd (not_nothing (line_text m) (text_of others) (same ∙ line_first m others))
one_list_of_lines (l ∷ lines) [] place within h g same = absurd (not_nothing (line_text l) (text_of lines) (sym same ∙ line_first l lines))
one_list_of_lines (l ∷ lines) (m ∷ others) place within h g same =
    let (after, l_leads, h_more) = step_of (next_place place l) lines h in
    let (then, m_leads, g_more) = step_of (next_place place m) others g in
    let few : (format_at place).atoms ≤ most_atoms = few_atoms place within in
    let l_is = leads_line place within l after l_leads in
    let m_is = leads_line place within m then m_leads in
    let parts = one_whole (line_text l) (line_text m) (text_of lines) (text_of others) (line_in_one (format_at place) few l l_is) (line_in_one (format_at place) few m m_is)
    (sym (line_first l lines) ∙ same ∙ line_first m others) in
    let here : l ≡ m = one_line (format_at place) few l m l_is m_is parts.0 in
    let there : then ≡ after = place_same then after (sym m_leads ∙ ap (next_place place) (sym here) ∙ l_leads) in
    let rest : lines ≡ others =
    one_list_of_lines lines others after (leads_within place within l after l_leads) h_more (subst (λ place. place_from place others ≡ Some ended) there g_more) parts.1 in
    λ i. here i ∷ rest i

-- a text is at most one certificate
pub one_certificate : (text : List ℕ) (c d : NamedCertificate) → IsCertificateText text c → IsCertificateText text d → c ≡ d
one_certificate text c d h g =
    one_whole_text c d
    (one_list_of_lines (text_lines c) (text_lines d) at_version refl (end_of_whole (text_lines c) (c, h.within, refl)) (end_of_whole (text_lines d) (d, g.within, refl)) (sym h.lines ∙ g.lines))
