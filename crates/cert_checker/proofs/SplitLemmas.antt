-- A certificate's text after some of its lines: the rest consists of the lines after them, none longer than allowed.
use Rattle.std.proofs.Common.{◌≡◌, ℕ, suc, ◌+◌, ◌-◌, ◌*◌, ◌<◌, ◌≤◌, Bool, true, false, not, inl, inr, List, [], ◌∷◌, ◌++◌, codes, length, length-append, Option, None, Some, refl, sym, ap, ◌∙◌, subst, append_assoc, append-nil, arith}
use Rattle.std.specs.Prelude.{◌&&◌, ◌==◌, Contains, IsTrue, nat_le, nat_lt, ℤ, pos, negsuc}
use Rattle.std.specs.Fmt.{decimal, signed_decimal}
use Rattle.std.specs.List.{list_all}
use Rattle.std.specs.Option.{option_and_then}
use Rattle.std.proofs.lemmas.Bool.{and_parts, cases_lt, eqb-true, false≢true, leb-true, ltb-true, ne_eqb}
use Rattle.std.proofs.lemmas.Fmt.{length-decimal-le}
use Rattle.model.specs.Claims.{bound, none}
use Rattle.certificate_definitions.specs.Evidence.{of_all, landmark, LineMark, expanded, cut, dead}
use Rattle.certificate_definitions.specs.Certificates.{Version, one, two, three, four, StateLine, are_weights, has_basis, has_exchanges, has_landmarks, has_tables, is_basis, is_mark, is_number, is_weight, rise}
use Rattle.model.proofs.ListLemmas.{Contains-here, Contains-there}
use Rattle.certificate_definitions.specs.CertificateText.{scope, row, NamedCertificate, TextLine, version, claims, constant, swapped, atom, tabled, landmark_line, part, listed, last, Format, format_of, BeginCertificate, HasLine, IsInOneLine, after_blank, are_exchanged, is_line, is_weight_count, keeps_text_limits, line_text, longest_line, mark_text, most_atoms, most_states, most_swaps, numbers_text, text_lines, text_of, version_number, weights_text, whole_line}
use Rattle.lower_bounds.specs.TableFunctions.{is_among}
use Rattle.lower_bounds.specs.LandmarkLines.{zone, value, is_value, is_zone, most_values, most_zones, negated_text, number_text}
use Rattle.certificate_definitions.specs.Parts.{are_in_order, counts_after, no_parts}
use Rattle.certificate_definitions.specs.CertificateMachine.{CertificatePlace, at_version, ended, format_at, next_place, place_from}
use Rattle.certificate_definitions.proofs.Machine.{end_of_whole, never, place_of_beginning, place_same}
use Rattle.certificate_reader.specs.Stages.{IsWithin}
use Rattle.certificate_reader.specs.Words.{are_lower}
use Rattle.certificate_reader.proofs.NumberLemmas.{is_below}
use Rattle.certificate_reader.proofs.NumbersRead.{rise_parts}
use Rattle.certificate_reader.proofs.WordLemmas.{same_head, same_tail}
use Rattle.certificate_reader.proofs.LinesRead.{few_constants}
use Rattle.certificate_reader.proofs.OneLine.{one_line}
use Rattle.certificate_reader.proofs.OneText.{is_one_line, line_in_one, one_whole}
use Rattle.certificate_reader.proofs.PlaceRead.{few_atoms, leads_line}
use Rattle.certificate_reader.proofs.ReaderLemmas.{leads_within}

-- ---- a certificate's lines are within the limits

pub kept_lines : (c : NamedCertificate) → IsTrue (keeps_text_limits c) → IsTrue (list_all (is_line (format_of c)) (text_lines c))
kept_lines c keeps = (and_parts _ (list_all (is_line (format_of c)) (text_lines c)) keeps).1

pub few_atoms_kept : (c : NamedCertificate) → IsTrue (keeps_text_limits c) → length c.atoms ≤ most_atoms
few_atoms_kept c keeps =
    let parts = are_in_order no_parts c.parts in
    let states = nat_le (length c.lines) most_states && list_all (λ (l : StateLine). has_basis (counts_after no_parts c.parts).values l.mark) c.lines in
    let fews = nat_le (length c.swaps) most_swaps && nat_le (length c.atoms) most_atoms in
    let (counts, _) = and_parts (fews && parts && states) (list_all (is_line (format_of c)) (text_lines c)) keeps in
    let (bodies, _) = and_parts (fews && parts) states counts in
    leb-true (length c.atoms) most_atoms (and_parts (nat_le (length c.swaps) most_swaps) (nat_le (length c.atoms) most_atoms) (and_parts fews parts bodies).0).1

pub few_weights_kept : (c : NamedCertificate) → IsTrue (keeps_text_limits c) → length c.constants ≤ 33
few_weights_kept c keeps =
    let test : TextLine → Bool = is_line (format_of c) in
    let (_, others) = and_parts (test (claims c.claim)) _ (kept_lines c keeps) in
    let (constants_are, _) = and_parts (test (constant c.constants)) _ others in
    few_constants c.version (length c.constants) (and_parts (is_weight_count c.version (length c.constants)) (list_all is_weight c.constants) constants_are).0

-- ---- the length of a line

number_short : (n : ℕ) → IsTrue (is_number n) → length (decimal n) ≤ 19
number_short n is = let below = is_below n is in length-decimal-le 19 n (omega arith) (omega (arith, below)) (omega (arith, below))

pub weight_short : (w : ℤ) → IsTrue (is_weight w) → length (signed_decimal w) ≤ 11
weight_short (pos n) is = let most = leb-true n 2147483647 is in let digits = length-decimal-le 10 n (omega arith) (omega (arith, most)) (omega (arith, most)) in omega (arith, digits)
weight_short (negsuc n) is =
    let most = ltb-true n 2147483647 is in
    let digits = length-decimal-le 10 (suc n) (omega arith) (omega (arith, most)) (omega (arith, most)) in
    omega (arith, digits)

numbers_short : (count least : ℕ) (numbers : List ℕ) → count ≤ most_atoms → least ≤ count → rise count least numbers ≡ true
    → length (numbers_text numbers) + 8 * least ≤ 8 * count
numbers_short count least [] few within all = omega (arith, within)
numbers_short count least (n ∷ numbers) few within all =
    let (above, below, more) = rise_parts count least n numbers all in
    let rest = numbers_short count (n + 1) numbers few (omega (arith, below)) more in
    let digits : length (decimal n) ≤ 7 = length-decimal-le 7 n (omega arith) (omega (arith, below, few)) (omega (arith, below, few)) in
    let word : length (after_blank (decimal n)) ≡ 1 + length (decimal n) = omega arith in
    omega (arith, above, below, rest, digits, word, length-append (after_blank (decimal n)) (numbers_text numbers))

-- a blank and a weight have at most 12 bytes
pub weights_short : (weights : List ℤ) → IsTrue (list_all is_weight weights) → length (weights_text weights) ≤ 12 * length weights
weights_short [] all = omega arith
weights_short (w ∷ weights) all =
    let (here, more) = and_parts (is_weight w) (list_all is_weight weights) all in
    let first = weight_short w here in
    let rest = weights_short weights more in
    let word : length (after_blank (signed_decimal w)) ≡ 1 + length (signed_decimal w) = omega arith in
    omega (arith, first, rest, word, length-append (after_blank (signed_decimal w)) (weights_text weights))

-- the number of a landmark value has at most 8 digits
value_number_short : (v : Version) (number : ℕ) → is_basis v (landmark number) ≡ true → length (decimal number) ≤ 8
value_number_short v number is =
    let below = ltb-true number most_values (and_parts (has_landmarks v) (nat_lt number most_values) is).1 in
    length-decimal-le 8 number (omega arith) (omega (arith, below)) (omega (arith, below))

after_number : (n : ℕ) (word rest : List ℕ) → length (word ++ (number_text n ++ rest)) ≡ length word + (1 + length (decimal n)) + length rest
after_number n word rest = omega (arith, length-append word (number_text n ++ rest), length-append (number_text n) rest, length-append (codes " ") (decimal n))

mark_short : (v : Version) (mark : LineMark) (cost : ℕ) → is_number cost ≡ true → is_mark v mark ≡ true → length (mark_text mark cost) ≤ 60
mark_short v (cut (landmark number) least) cost is marked =
    let (basis, least_is) = and_parts (is_basis v (landmark number)) (is_number least) marked in
    let own = value_number_short v number basis in
    let digits = number_short cost is in
    let others = number_short least least_is in
    omega (arith, own, digits, others, after_number number (codes "cut-by") (number_text cost ++ number_text least), length-append (number_text cost) (number_text least), length-append (codes " ") (decimal cost), length-append (codes " ") (decimal least))
mark_short v (dead (landmark number)) cost is marked =
    let own = value_number_short v number (dead_basis v marked) in
    let digits = number_short cost is in
    omega (arith, own, digits, after_number number (codes "dead-by") (number_text cost), length-append (codes " ") (decimal cost))
  where
    dead_basis : (v : Version) → is_mark v (dead (landmark number)) ≡ true → is_basis v (landmark number) ≡ true
    dead_basis one marked = absurd (false≢true marked)
    dead_basis two marked = marked
    dead_basis three marked = marked
    dead_basis four marked = marked
mark_short v expanded cost is marked =
    let digits = number_short cost is in
    let word : length (codes "open " ++ decimal cost) ≡ 5 + length (decimal cost) = omega arith in
    omega (arith, digits, word)
mark_short v (cut of_all least) cost is marked =
    let digits = number_short cost is in
    let others = number_short least marked in
    let word : length (codes "cut " ++ decimal cost) ≡ 4 + length (decimal cost) = omega arith in
    let second : length (after_blank (decimal least)) ≡ 1 + length (decimal least) = omega arith in
    omega (arith, digits, others, word, second, length-append (codes "cut " ++ decimal cost) (after_blank (decimal least)))
mark_short v (dead of_all) cost is marked =
    let digits = number_short cost is in
    let word : length (codes "dead " ++ decimal cost) ≡ 5 + length (decimal cost) = omega arith in
    omega (arith, digits, word)

version_is : (v : Version) → is_number (version_number v) ≡ true
version_is one = refl
version_is two = refl
version_is three = refl
version_is four = refl

-- The numbers of a zone: a blank and at most 6 digits below a million, and 7 from then on.
zone_numbers_short : (count least : ℕ) (numbers : List ℕ) → count ≤ most_atoms → least ≤ count → rise count least numbers ≡ true
    → length (numbers_text numbers) + (7 * least + (least - 1000000)) ≤ 7 * count + (count - 1000000)
zone_numbers_short count least [] few within all = omega (arith, within)
zone_numbers_short count least (n ∷ numbers) few within all =
    let (above, below, more) = rise_parts count least n numbers all in
    let rest = zone_numbers_short count (n + 1) numbers few (omega (arith, below)) more in
    let word = length-append (codes " ") (decimal n) in
    let all_of = length-append (after_blank (decimal n)) (numbers_text numbers) in
    elim (cases_lt n 1000000) [
      | inl small ↦ let digits = length-decimal-le 6 n (omega arith) (omega (arith, small)) (omega (arith, small)) in omega (arith, above, below, rest, digits, word, all_of)
      | inr large ↦ let digits = length-decimal-le 7 n (omega arith) (omega (arith, below, few)) (omega (arith, below, few)) in omega (arith, above, below, rest, digits, word, all_of, large)
    ]

negated_short : (numbers : List ℕ) → length (negated_text numbers) ≤ 4 + length (numbers_text numbers)
negated_short [] = omega arith
negated_short (number ∷ others) = omega (arith, length-append (codes " not") (numbers_text (number ∷ others)))

-- a line within the limits is not too long
module _ (f : Format) (few : f.atoms ≤ most_atoms) (few_weights : f.weights ≤ 33) where
  pub line_short : (line : TextLine) → IsTrue (is_line f line) → length (line_text line) ≤ longest_line
  line_short (version w) is =
      let digits = number_short (version_number w) (version_is w) in
      let long : length (codes "pddl-cert " ++ decimal (version_number w)) ≡ 10 + length (decimal (version_number w)) = omega arith in
      omega (arith, digits, long)
  line_short (claims (bound n)) is =
      let digits = number_short n is in
      let long : length (codes "claim bound " ++ decimal n) ≡ 12 + length (decimal n) = omega arith in
      omega (arith, digits, long)
  line_short (claims none) is = let long : length (line_text (claims none)) ≡ 10 = refl in omega (arith, long)
  line_short (constant k) is =
      let (count, all) = and_parts (is_weight_count f.version (length k)) (list_all is_weight k) is in
      let digits = weights_short k all in
      let most = few_constants f.version (length k) count in
      let long : length (codes "constant" ++ weights_text k) ≡ 8 + length (weights_text k) = omega arith in
      omega (arith, digits, most, long)
  line_short (atom a) is =
      leb-true (length (line_text (atom a))) longest_line (and_parts (are_weights f.weights a.weights && are_lower a.atom) (nat_le (length (line_text (atom a))) longest_line) is).1
  line_short (swapped names) is =
      leb-true (length (line_text (swapped names))) longest_line (and_parts (has_exchanges f.version && are_exchanged names) (nat_le (length (line_text (swapped names))) longest_line) is).1
  line_short (part (tabled (scope s))) is =
      let (rising, _) = and_parts (rise f.atoms 0 s) (nat_le 1 (length s)) (and_parts (has_tables f.version) _ is).1 in
      let more = numbers_short f.atoms 0 s few (omega arith) rising in
      let long : length (codes "table" ++ numbers_text s) ≡ 5 + length (numbers_text s) = omega arith in
      omega (arith, few, more, long)
  line_short (part (tabled (row r))) is =
      let (weights, rising) = and_parts (are_weights f.weights r.weights) (rise f.atoms 0 r.atoms) (and_parts (has_tables f.version) _ is).1 in
      let (many, all) = and_parts (length r.weights == f.weights) (list_all is_weight r.weights) weights in
      let digits = weights_short r.weights all in
      let more = numbers_short f.atoms 0 r.atoms few (omega arith) rising in
      let start : length (codes "row" ++ weights_text r.weights) ≡ 3 + length (weights_text r.weights) = omega arith in
      omega (arith, few, few_weights, eqb-true (length r.weights) f.weights many, digits, more, start, length-append (codes "row" ++ weights_text r.weights) (numbers_text r.atoms))
  line_short (part (landmark_line (zone z))) is =
      let apart = list_all (λ number. not (is_among z.atoms number)) z.negated in
      let some = nat_le 1 (length z.atoms + length z.negated) in
      let zone_is = (and_parts (has_landmarks f.version) (is_zone f.atoms z) is).1 in
      let both = (and_parts (rise f.atoms 0 z.atoms && rise f.atoms 0 z.negated) some (and_parts (rise f.atoms 0 z.atoms && rise f.atoms 0 z.negated && some) apart zone_is).0).0 in
      let (atoms, negated) = and_parts (rise f.atoms 0 z.atoms) (rise f.atoms 0 z.negated) both in
      omega (
        arith,
        few,
        zone_numbers_short f.atoms 0 z.atoms few (omega arith) atoms,
        zone_numbers_short f.atoms 0 z.negated few (omega arith) negated,
        negated_short z.negated,
        length-append (codes "zone") (numbers_text z.atoms ++ negated_text z.negated),
        length-append (numbers_text z.atoms) (negated_text z.negated),
      )
  line_short (part (landmark_line (value shares))) is =
      leb-true (length (line_text (part (landmark_line (value shares))))) longest_line (and_parts (has_landmarks f.version && is_value most_zones shares) (nat_le (length (line_text (part (landmark_line (value shares))))) longest_line) is).1
  line_short (listed l) is =
      let (first, rising) = and_parts (is_number l.cost && is_mark f.version l.mark) (rise f.atoms 0 l.atoms) is in
      let (cost_is, marked) = and_parts (is_number l.cost) (is_mark f.version l.mark) first in
      let start = mark_short f.version l.mark l.cost cost_is marked in
      let more = numbers_short f.atoms 0 l.atoms few (omega arith) rising in
      omega (arith, few, start, more, length-append (mark_text l.mark l.cost) (numbers_text l.atoms))
  line_short (last n) is =
      let digits = number_short n is in
      let long : length (codes "end " ++ decimal n) ≡ 4 + length (decimal n) = omega arith in
      omega (arith, digits, long)

-- ---- the first line

pub nothing_there : (a rest : List ℕ) → [] ≡ a ++ 10 ∷ rest → ⊥
nothing_there [] rest same = absurd (cc same)
nothing_there (b ∷ a) rest same = absurd (cc same)

in_one : (bytes : List ℕ) → IsInOneLine bytes → is_one_line bytes ≡ true
in_one [] single = refl
in_one (byte ∷ bytes) single =
    ap (λ t. not t && is_one_line bytes) (ne_eqb byte 10 (λ same. single (subst (Contains (byte ∷ bytes)) same (Contains-here byte bytes))))
    ∙ in_one bytes (λ later. single (Contains-there byte bytes 10 later))

pub first_line : (line : TextLine) (lines : List TextLine) → text_of (line ∷ lines) ≡ line_text line ++ 10 ∷ text_of lines
first_line line lines = append_assoc (line_text line) (10 ∷ []) (text_of lines)

-- the first line of some bytes is that of the text that they are
pub line_is_first : (f : Format) → f.atoms ≤ most_atoms → (bytes line : List ℕ) (l : TextLine) (more : List TextLine) → IsTrue (is_line f l) → bytes ≡ text_of (l ∷ more) → HasLine bytes line
    → line_text l ≡ line
line_is_first f few bytes line l more is are (following, splits, single, short) =
    (one_whole (line_text l) line (text_of more) following (line_in_one f few l is) (in_one line single) (sym (first_line l more) ∙ sym are ∙ splits ∙ append_assoc line (10 ∷ []) following)).0

-- bytes that reach past an LF contain it
pub end_within : (front rest line following : List ℕ) → front ++ rest ≡ line ++ 10 ∷ following → length line < length front → Contains front 10
end_within [] rest line following same long = absurd (omega (arith, long))
end_within (byte ∷ front) rest [] following same long = subst (Contains (byte ∷ front)) (same_head byte 10 (front ++ rest) following same) (Contains-here byte front)
end_within (byte ∷ front) rest (b ∷ line) following same long =
    Contains-there byte front 10 (end_within front rest line following (same_tail byte b (front ++ rest) (line ++ 10 ∷ following) same) (omega (arith, long)))

-- ---- the rest after some lines

pub text_push : (lines : List TextLine) (line : TextLine) → text_of (lines ++ line ∷ []) ≡ text_of lines ++ whole_line line
text_push [] line = append-nil (whole_line line)
text_push (first ∷ lines) line = ap (λ text. whole_line first ++ text) (text_push lines line) ∙ sym (append_assoc (whole_line first) (text_of lines) (whole_line line))

-- the state that the first of some lines leads to
step_of : (next : Option CertificatePlace) (lines : List TextLine) (after : CertificatePlace) → option_and_then (λ next. place_from next lines) next ≡ Some after
    → (place : CertificatePlace) × (next ≡ Some place) × (place_from place lines ≡ Some after)
step_of None lines after leads = never after leads
step_of (Some place) lines after leads = (place, refl, leads)

-- of two lists of lines that lead on from a state, if the text of the first begins with that of the second, the first begins with
-- the second
split_from : (before lines : List TextLine) (bytes : List ℕ) (place between after : CertificatePlace) → IsWithin place → place_from place before ≡ Some between → place_from place lines ≡ Some after
    → text_of lines ≡ text_of before ++ bytes → (rest : List TextLine) × (lines ≡ before ++ rest) × (bytes ≡ text_of rest)
split_from [] lines bytes place between after within h g same = (lines, refl, sym same)
split_from (l ∷ before) [] bytes place between after within h g same =
    absurd (nothing_there (line_text l) (text_of before ++ bytes)
    (same ∙ append_assoc (whole_line l) (text_of before) bytes ∙ append_assoc (line_text l) (10 ∷ []) (text_of before ++ bytes)))
split_from (l ∷ before) (m ∷ lines) bytes place between after within h g same =
    let (next, l_leads, h_more) = step_of (next_place place l) before between h in
    let (then, m_leads, g_more) = step_of (next_place place m) lines after g in
    let f : Format = format_at place in
    let few : f.atoms ≤ most_atoms = few_atoms place within in
    let l_is = leads_line place within l next l_leads in
    let m_is = leads_line place within m then m_leads in
    let parts = one_whole (line_text m) (line_text l) (text_of lines) (text_of before ++ bytes) (line_in_one f few m m_is) (line_in_one f few l l_is)
    (sym (first_line m lines) ∙ same ∙ append_assoc (whole_line l) (text_of before) bytes ∙ append_assoc (line_text l) (10 ∷ []) (text_of before ++ bytes)) in
    let here : m ≡ l = one_line f few m l m_is l_is parts.0 in
    let there : then ≡ next = place_same then next (sym m_leads ∙ ap (next_place place) here ∙ l_leads) in
    let (rest, are, left) =
    split_from before lines bytes next between after (leads_within place within l next l_leads) h_more (subst (λ place. place_from place lines ≡ Some after) there g_more) parts.1 in
    (rest, (λ i. here i ∷ are i), left)

-- lines that are a prefix of a certificate, and whose text is a prefix of another's, are its first lines
pub split_off : (c : NamedCertificate) → IsTrue (keeps_text_limits c) → (before : List TextLine) (bytes : List ℕ) → BeginCertificate before → text_of (text_lines c) ≡ text_of before ++ bytes
    → (rest : List TextLine) × (text_lines c ≡ before ++ rest) × (bytes ≡ text_of rest)
split_off c keeps before bytes begun same =
    let (between, leads) = place_of_beginning before begun in
    split_from before (text_lines c) bytes at_version between ended refl leads (end_of_whole (text_lines c) (c, keeps, refl)) same

-- ---- the state that some lines lead to

within_from : (lines : List TextLine) (place after : CertificatePlace) → IsWithin place → place_from place lines ≡ Some after → IsWithin after
within_from [] place after within leads = subst IsWithin (place_same place after leads) within
within_from (line ∷ lines) place after within leads =
    let (next, is, more) = step_of (next_place place line) lines after leads in
    within_from lines next after (leads_within place within line next is) more

-- the state after some lines is within the limits
pub within_after : (lines : List TextLine) (place : CertificatePlace) → place_from at_version lines ≡ Some place → IsWithin place
within_after lines place leads = within_from lines at_version place refl leads
