-- A line of a text has a unique reading.
use Rattle.std.proofs.Common.{◌≡◌, ℕ, ◌≤◌, List, ◌++◌, codes, map, Option, None, Some, refl, sym, ap, ◌∙◌, subst}
use Rattle.std.specs.Prelude.{◌&&◌, ◌==◌, if◌then◌else◌, ℤ, IsTrue, length, nat_le}
use Rattle.std.specs.Fmt.{decimal}
use Rattle.std.specs.List.{list_all}
use Rattle.std.proofs.lemmas.Bool.{and_parts}
use Rattle.std.proofs.lemmas.List.{append_cancel_left}
use Rattle.model.specs.Claims.{Claim, bound, none}
use Rattle.certificate_definitions.specs.Evidence.{of_all, landmark, LineMark, expanded, cut, dead}
use Rattle.model.specs.PlanWriting.{is_lower_name}
use Rattle.certificate_definitions.specs.Certificates.{Version, one, two, three, four, StateLine, is_claim, is_weight, are_weights, has_exchanges, has_landmarks, has_tables, rise}
use Rattle.lower_bounds.specs.LandmarkLines.{zone, value, is_zone, is_value, most_zones}
use Rattle.lower_bounds.specs.TableFunctions.{Row}
use Rattle.certificate_definitions.specs.CertificateText.{NamedAtom, WeightedAtom, scope, row, tabled, landmark_line, Part, is_part, Format, TextLine, version, claims, constant, swapped, atom, part, listed, last, are_exchanged, are_paired, differ, is_weight_count, is_line, line_text, numbers_text, longest_line, most_atoms, version_number}
use Rattle.certificate_reader.specs.Words.{IsCut, IsLeading, IsNumbered, IsReadAs, are_lower, atom_rest, claim_rest, line_head, line_rest, mark_head, mark_rest, part_head, part_rest, then_numbers, then_weights, then_words}
use Rattle.certificate_reader.proofs.WordLemmas.{one_first}
use Rattle.certificate_reader.proofs.LineLemmas.{all_words, head_is_word, line_splits, lower_name_is_word, number_is_word, some_same}
use Rattle.certificate_reader.proofs.WeightsRead.{leading_alone, one_leading}
use Rattle.certificate_reader.proofs.NumbersRead.{numbers_are_words, one_then_numbers, rising_are_numbers, same_number, same_numbers, version_is_number}
use Rattle.certificate_reader.proofs.NamesRead.{names_are_words}
use Rattle.certificate_reader.proofs.LandmarksRead.{one_value, one_zone, value_within}
use Rattle.certificate_reader.proofs.LinesRead.{is_no_part, cut_by_of, cut_of, dead_by_of, few_constants, marks_cut, marks_cut_by, marks_dead, marks_dead_by, marks_open, one_basis, same_weights, dead_parts, open_parts, atom_text, inner_of, is_no_mark, same_inner, unlike}

-- ---- claims

one_claim : (c d : Claim) → IsTrue (is_claim c) → IsTrue (is_claim d) → claim_rest c ≡ claim_rest d → c ≡ d
one_claim (bound a) (bound b) c_is d_is same = ap (λ n. bound n) (same_number a b c_is d_is (append_cancel_left (codes "bound ") (decimal a) (decimal b) same))
one_claim (bound a) none c_is d_is same = absurd (unlike (codes "bound") (codes "none") refl (one_first (codes "bound") (codes "none") (Some (decimal a)) None refl refl same).0)
one_claim none (bound b) c_is d_is same = absurd (unlike (codes "none") (codes "bound") refl (one_first (codes "none") (codes "bound") None (Some (decimal b)) refl refl same).0)
one_claim none none c_is d_is same = refl

-- ---- numbers

-- bytes are a number followed by numbers in only one way
one_numbered : (bytes : List ℕ) (count : ℕ) → count ≤ most_atoms → (m n : ℕ) (a b : List ℕ) → IsNumbered bytes count m a → IsNumbered bytes count n b → (m ≡ n) × (a ≡ b)
one_numbered bytes count few m n a b h g =
    let both = one_first (decimal m) (decimal n) (then_words (map decimal a) None) (then_words (map decimal b) None) (number_is_word m h.is_number) (number_is_word n g.is_number) (sym h.splits ∙ g.splits) in
    let a_are = rising_are_numbers count 0 a few h.rising in
    let b_are = rising_are_numbers count 0 b few g.rising in (
      same_number m n h.is_number g.is_number both.0,
      same_numbers a b a_are b_are (all_words (map decimal a) (map decimal b) (numbers_are_words a a_are) (numbers_are_words b b_are) both.1),
    )

-- ---- states and atoms

one_cut : (rest : List ℕ) (count : ℕ) → count ≤ most_atoms → (c d k l : ℕ) (a b : List ℕ) → IsCut rest count c k a → IsCut rest count d l b → (c ≡ d) × (k ≡ l) × (a ≡ b)
one_cut rest count few c d k l a b h g =
    let both = one_first (decimal c) (decimal d) (Some h.bytes) (Some g.bytes) (number_is_word c h.is_number) (number_is_word d g.is_number) (sym h.splits ∙ g.splits) in
    let bytes : h.bytes ≡ g.bytes = some_same h.bytes g.bytes both.1 in
    let (leasts, lists) = one_numbered g.bytes count few k l a b (subst (λ bytes. IsNumbered bytes count k a) bytes h.numbered) g.numbered in
    (same_number c d h.is_number g.is_number both.0, leasts, lists)

module _ (f : Format) (few : f.atoms ≤ most_atoms) (rest : List ℕ) where
  -- a state line that begins with this word
  abbrev IsState : List ℕ → ℕ → LineMark → List ℕ → Type 0
  IsState head cost mark atoms = IsReadAs head rest f (listed (record { cost = cost; mark = mark; atoms = atoms }))

  abbrev AreSame : (c d : ℕ) (k l : LineMark) (a b : List ℕ) → Type 0
  AreSame c d k l a b = ◌≡◌ {A = TextLine} (listed (record { cost = c; mark = k; atoms = a })) (listed (record { cost = d; mark = l; atoms = b }))

  same_state : (c d : ℕ) (k l : LineMark) (a b : List ℕ) → c ≡ d → k ≡ l → a ≡ b → AreSame c d k l a b
  same_state c d k l a b costs marks lists = λ i. listed (record { cost = costs i; mark = marks i; atoms = lists i })

  -- a state line that begins with the word of the first one's mark
  one_state : (c d : ℕ) (k l : LineMark) (a b : List ℕ) → IsState (mark_head k) c k a → IsState (mark_head k) d l b → AreSame c d k l a b
  one_state c d expanded l a b h g =
      let (costs, lists) = one_numbered rest f.atoms few c d a b (open_parts rest f c expanded a h) (open_parts rest f d l b g) in
      same_state c d expanded l a b costs (sym (marks_open l g.head)) lists
  one_state c d (dead of_all) l a b h g =
      let (costs, lists) = one_numbered rest f.atoms few c d a b (dead_parts rest f c (dead of_all) a h) (dead_parts rest f d l b g) in
      same_state c d (dead of_all) l a b costs (sym (marks_dead l g.head)) lists
  one_state c d (cut of_all k) l a b h g =
      let (least, same) = marks_cut l g.head in
      let other = cut_of rest f d least b (subst (λ l. IsState (codes "cut") d l b) same g) in
      let (costs, leasts, lists) = one_cut rest f.atoms few c d k least a b (cut_of rest f c k a h) other in
      same_state c d (cut of_all k) l a b costs (ap (λ k. cut of_all k) leasts ∙ sym same) lists
  one_state c d (cut (landmark m) k) l a b h g =
      let (n, least, same) = marks_cut_by l g.head in
      let (own, own_by, own_cut) = cut_by_of rest f m c k a h in
      let (other, other_by, other_cut) = cut_by_of rest f n d least b (subst (λ l. IsState (codes "cut-by") d l b) same g) in
      let (numbers, bytes) = one_basis rest f.version m n own other own_by other_by in
      let (costs, leasts, lists) = one_cut other f.atoms few c d k least a b (subst (λ bytes. IsCut bytes f.atoms c k a) bytes own_cut) other_cut in
      same_state c d (cut (landmark m) k) l a b costs ((λ i. cut (landmark (numbers i)) (leasts i)) ∙ sym same) lists
  one_state c d (dead (landmark m)) l a b h g =
      let (n, same) = marks_dead_by l g.head in
      let (own, own_by, own_numbered) = dead_by_of rest f m c a h in
      let (other, other_by, other_numbered) = dead_by_of rest f n d b (subst (λ l. IsState (codes "dead-by") d l b) same g) in
      let (numbers, bytes) = one_basis rest f.version m n own other own_by other_by in
      let (costs, lists) = one_numbered other f.atoms few c d a b (subst (λ bytes. IsNumbered bytes f.atoms c a) bytes own_numbered) other_numbered in
      same_state c d (dead (landmark m)) l a b costs (ap (λ n. dead (landmark n)) numbers ∙ sym same) lists

one_name : (a b : NamedAtom) → IsTrue (are_lower a) → IsTrue (are_lower b) → atom_rest a ≡ atom_rest b → a ≡ b
one_name a b a_are b_are same =
    let (a_predicate, a_objects) = and_parts (is_lower_name a.predicate) (list_all is_lower_name a.objects) a_are in
    let (b_predicate, b_objects) = and_parts (is_lower_name b.predicate) (list_all is_lower_name b.objects) b_are in
    let inner : inner_of a ≡ inner_of b = same_inner (inner_of a) (inner_of b) (sym (atom_text a) ∙ same ∙ atom_text b) in
    let both = one_first a.predicate b.predicate (then_words a.objects None) (then_words b.objects None) (lower_name_is_word a.predicate a_predicate) (lower_name_is_word b.predicate b_predicate) inner in
    let objects : a.objects ≡ b.objects = all_words a.objects b.objects (names_are_words a.objects a_objects) (names_are_words b.objects b_objects) both.1 in
    λ i. record { predicate = both.0 i; objects = objects i }

-- ---- atoms and tables

one_atom : (f : Format) (a b : WeightedAtom) → IsTrue (is_line f (atom a)) → IsTrue (is_line f (atom b)) → line_rest (atom a) ≡ line_rest (atom b) → atom a ≡ atom b
one_atom f a b a_are b_are same =
    let (a_weights, a_lower) = atom_within a a_are in
    let (b_weights, b_lower) = atom_within b b_are in
    let both = same_weights f.weights a.weights b.weights (Some (atom_rest a.atom)) (Some (atom_rest b.atom)) a_weights b_weights same in
    let names : a.atom ≡ b.atom = one_name a.atom b.atom a_lower b_lower (some_same (atom_rest a.atom) (atom_rest b.atom) both.1) in
    λ i. atom (record { weights = both.0 i; atom = names i })
  where
    atom_within : (a : WeightedAtom) → IsTrue (is_line f (atom a)) → IsTrue (are_weights f.weights a.weights) × IsTrue (are_lower a.atom)
    atom_within a within =
        and_parts (are_weights f.weights a.weights) (are_lower a.atom)
        (and_parts (are_weights f.weights a.weights && are_lower a.atom) (nat_le (length (line_text (atom a))) longest_line) within).0

one_scope : (f : Format) → f.atoms ≤ most_atoms → (a b : List ℕ) → IsTrue (is_part f (tabled (scope a))) → IsTrue (is_part f (tabled (scope b))) → then_numbers a ≡ then_numbers b
    → tabled (scope a) ≡ tabled (scope b)
one_scope f few a b a_is b_is same = ap (λ atoms. tabled (scope atoms)) (one_then_numbers f.atoms few a b (rises a a_is) (rises b b_is) same)
  where
    rises : (s : List ℕ) → IsTrue (is_part f (tabled (scope s))) → IsTrue (rise f.atoms 0 s)
    rises s is = (and_parts (rise f.atoms 0 s) (nat_le 1 (length s)) (and_parts (has_tables f.version) (rise f.atoms 0 s && nat_le 1 (length s)) is).1).0

one_row : (f : Format) → f.atoms ≤ most_atoms → (q r : Row) → IsTrue (is_part f (tabled (row q))) → IsTrue (is_part f (tabled (row r))) → part_rest (tabled (row q)) ≡ part_rest (tabled (row r))
    → tabled (row q) ≡ tabled (row r)
one_row f few q r q_is r_is same =
    let (q_weights, q_rises) = parts q q_is in
    let (r_weights, r_rises) = parts r r_is in
    let both = same_weights f.weights q.weights r.weights (then_numbers q.atoms) (then_numbers r.atoms) q_weights r_weights same in
    let atoms : q.atoms ≡ r.atoms = one_then_numbers f.atoms few q.atoms r.atoms q_rises r_rises both.1 in
    λ i. tabled (row (record { atoms = atoms i; weights = both.0 i }))
  where
    parts : (r : Row) → IsTrue (is_part f (tabled (row r))) → IsTrue (are_weights f.weights r.weights) × IsTrue (rise f.atoms 0 r.atoms)
    parts r is = and_parts (are_weights f.weights r.weights) (rise f.atoms 0 r.atoms) (and_parts (has_tables f.version) (are_weights f.weights r.weights && rise f.atoms 0 r.atoms) is).1

one_part : (f : Format) → f.atoms ≤ most_atoms → (p q : Part) → IsTrue (is_part f p) → IsTrue (is_part f q) → part_head p ≡ part_head q → part_rest p ≡ part_rest q → p ≡ q
one_part f few (tabled (scope s)) (tabled (scope t)) h g heads rests = one_scope f few s t h g rests
one_part f few (tabled (scope s)) (tabled (row r)) h g heads rests = absurd (unlike (codes "table") (codes "row") refl heads)
one_part f few (tabled (row q)) (tabled (scope t)) h g heads rests = absurd (unlike (codes "row") (codes "table") refl heads)
one_part f few (tabled (row q)) (tabled (row r)) h g heads rests = one_row f few q r h g rests
one_part f few (tabled (scope s)) (landmark_line (zone z)) h g heads rests = absurd (unlike (codes "table") (codes "zone") refl heads)
one_part f few (tabled (scope s)) (landmark_line (value b)) h g heads rests = absurd (unlike (codes "table") (codes "marks") refl heads)
one_part f few (tabled (row q)) (landmark_line (zone z)) h g heads rests = absurd (unlike (codes "row") (codes "zone") refl heads)
one_part f few (tabled (row q)) (landmark_line (value b)) h g heads rests = absurd (unlike (codes "row") (codes "marks") refl heads)
one_part f few (landmark_line (zone y)) (tabled (scope t)) h g heads rests = absurd (unlike (codes "zone") (codes "table") refl heads)
one_part f few (landmark_line (zone y)) (tabled (row r)) h g heads rests = absurd (unlike (codes "zone") (codes "row") refl heads)
one_part f few (landmark_line (zone y)) (landmark_line (zone z)) h g heads rests =
    ap (λ z. landmark_line (zone z)) (one_zone f.atoms few y z (and_parts (has_landmarks f.version) (is_zone f.atoms y) h).1 (and_parts (has_landmarks f.version) (is_zone f.atoms z) g).1 rests)
one_part f few (landmark_line (zone y)) (landmark_line (value b)) h g heads rests = absurd (unlike (codes "zone") (codes "marks") refl heads)
one_part f few (landmark_line (value a)) (tabled (scope t)) h g heads rests = absurd (unlike (codes "marks") (codes "table") refl heads)
one_part f few (landmark_line (value a)) (tabled (row r)) h g heads rests = absurd (unlike (codes "marks") (codes "row") refl heads)
one_part f few (landmark_line (value a)) (landmark_line (zone z)) h g heads rests = absurd (unlike (codes "marks") (codes "zone") refl heads)
one_part f few (landmark_line (value a)) (landmark_line (value b)) h g heads rests =
    ap (λ shares. landmark_line (value shares)) (one_value a b (value_within f a h).1 (value_within f b g).1 rests)

part_is_no_mark : (p : Part) (mark : LineMark) → part_head p ≡ mark_head mark → ⊥
part_is_no_mark (tabled (scope s)) mark heads = is_no_mark (codes "table") refl mark (sym heads)
part_is_no_mark (tabled (row r)) mark heads = is_no_mark (codes "row") refl mark (sym heads)
part_is_no_mark (landmark_line (zone z)) mark heads = is_no_mark (codes "zone") refl mark (sym heads)
part_is_no_mark (landmark_line (value shares)) mark heads = is_no_mark (codes "marks") refl mark (sym heads)

-- ---- any line

abbrev numbered_as : ℕ → Version
numbered_as n = if n == 1 then one else if n == 2 then two else if n == 3 then three else four

by_number : (v : Version) → numbered_as (version_number v) ≡ v
by_number one = refl
by_number two = refl
by_number three = refl
by_number four = refl

one_version : (v w : Version) → decimal (version_number v) ≡ decimal (version_number w) → version v ≡ version w
one_version v w same =
    ap version (sym (by_number v) ∙ ap numbered_as (same_number (version_number v) (version_number w) (version_is_number v) (version_is_number w) same) ∙ by_number w)

constants_same : (f : Format) (k j : List ℤ) → IsTrue (is_line f (constant k)) → IsTrue (is_line f (constant j)) → then_weights k None ≡ then_weights j None → k ≡ j
constants_same f k j k_is j_is same =
    (one_leading (then_weights j None) 33 k j None None
    (constant_leads f k k_is same) (constant_leads f j j_is refl)).0
  where
    constant_leads : (f : Format) (k : List ℤ) → IsTrue (is_line f (constant k)) → {words : Option (List ℕ)} → then_weights k None ≡ words → IsLeading words 33 k None
    constant_leads f k is {words} splits =
        let (count, all) = and_parts (is_weight_count f.version (length k)) (list_all is_weight k) is in
        leading_alone words 33 k all (few_constants f.version (length k) count) splits

one_swap : (f : Format) (names others : List (List ℕ)) → IsTrue (is_line f (swapped names)) → IsTrue (is_line f (swapped others)) → then_words names None ≡ then_words others None → names ≡ others
one_swap f names others is also same =
    all_words names others (names_are_words names (lower names is)) (names_are_words others (lower others also)) same
  where
    lower : (names : List (List ℕ)) → IsTrue (is_line f (swapped names)) → IsTrue (list_all is_lower_name names)
    lower names is =
        (and_parts (nat_le 2 (length names) && are_paired names && differ names) (list_all is_lower_name names)
        (and_parts (has_exchanges f.version) (are_exchanged names) (and_parts (has_exchanges f.version && are_exchanged names) (nat_le (length (line_text (swapped names))) longest_line) is).0).1).1

module _ (f : Format) (few : f.atoms ≤ most_atoms) where
  by_parts : (l m : TextLine) → IsTrue (is_line f l) → IsTrue (is_line f m) → line_head l ≡ line_head m → line_rest l ≡ line_rest m → l ≡ m
  by_parts (version u) (version w) h g heads rests = one_version u w (some_same (decimal (version_number u)) (decimal (version_number w)) rests)
  by_parts (version u) (claims d) h g heads rests = absurd (unlike (codes "pddl-cert") (codes "claim") refl heads)
  by_parts (version u) (constant j) h g heads rests = absurd (unlike (codes "pddl-cert") (codes "constant") refl heads)
  by_parts (version u) (swapped others) h g heads rests = absurd (unlike (codes "pddl-cert") (codes "swap") refl heads)
  by_parts (version u) (atom b) h g heads rests = absurd (unlike (codes "pddl-cert") (codes "atom") refl heads)
  by_parts (version u) (part q) h g heads rests = absurd (is_no_part (codes "pddl-cert") refl q (sym heads))
  by_parts (version u) (listed o) h g heads rests = absurd (is_no_mark (codes "pddl-cert") refl o.mark (sym heads))
  by_parts (version u) (last n) h g heads rests = absurd (unlike (codes "pddl-cert") (codes "end") refl heads)
  by_parts (claims c) (version w) h g heads rests = absurd (unlike (codes "claim") (codes "pddl-cert") refl heads)
  by_parts (claims c) (claims d) h g heads rests = ap (λ claim. claims claim) (one_claim c d h g (some_same (claim_rest c) (claim_rest d) rests))
  by_parts (claims c) (constant j) h g heads rests = absurd (unlike (codes "claim") (codes "constant") refl heads)
  by_parts (claims c) (swapped others) h g heads rests = absurd (unlike (codes "claim") (codes "swap") refl heads)
  by_parts (claims c) (atom b) h g heads rests = absurd (unlike (codes "claim") (codes "atom") refl heads)
  by_parts (claims c) (part q) h g heads rests = absurd (is_no_part (codes "claim") refl q (sym heads))
  by_parts (claims c) (listed o) h g heads rests = absurd (is_no_mark (codes "claim") refl o.mark (sym heads))
  by_parts (claims c) (last n) h g heads rests = absurd (unlike (codes "claim") (codes "end") refl heads)
  by_parts (constant k) (version w) h g heads rests = absurd (unlike (codes "constant") (codes "pddl-cert") refl heads)
  by_parts (constant k) (claims d) h g heads rests = absurd (unlike (codes "constant") (codes "claim") refl heads)
  by_parts (constant k) (constant j) h g heads rests = ap (λ k. constant k) (constants_same f k j h g rests)
  by_parts (constant k) (swapped others) h g heads rests = absurd (unlike (codes "constant") (codes "swap") refl heads)
  by_parts (constant k) (atom b) h g heads rests = absurd (unlike (codes "constant") (codes "atom") refl heads)
  by_parts (constant k) (part q) h g heads rests = absurd (is_no_part (codes "constant") refl q (sym heads))
  by_parts (constant k) (listed o) h g heads rests = absurd (is_no_mark (codes "constant") refl o.mark (sym heads))
  by_parts (constant k) (last n) h g heads rests = absurd (unlike (codes "constant") (codes "end") refl heads)
  by_parts (swapped names) (version w) h g heads rests = absurd (unlike (codes "swap") (codes "pddl-cert") refl heads)
  by_parts (swapped names) (claims d) h g heads rests = absurd (unlike (codes "swap") (codes "claim") refl heads)
  by_parts (swapped names) (constant j) h g heads rests = absurd (unlike (codes "swap") (codes "constant") refl heads)
  by_parts (swapped names) (swapped others) h g heads rests = ap (λ names. swapped names) (one_swap f names others h g rests)
  by_parts (swapped names) (atom b) h g heads rests = absurd (unlike (codes "swap") (codes "atom") refl heads)
  by_parts (swapped names) (part q) h g heads rests = absurd (is_no_part (codes "swap") refl q (sym heads))
  by_parts (swapped names) (listed o) h g heads rests = absurd (is_no_mark (codes "swap") refl o.mark (sym heads))
  by_parts (swapped names) (last n) h g heads rests = absurd (unlike (codes "swap") (codes "end") refl heads)
  by_parts (atom a) (version w) h g heads rests = absurd (unlike (codes "atom") (codes "pddl-cert") refl heads)
  by_parts (atom a) (claims d) h g heads rests = absurd (unlike (codes "atom") (codes "claim") refl heads)
  by_parts (atom a) (constant j) h g heads rests = absurd (unlike (codes "atom") (codes "constant") refl heads)
  by_parts (atom a) (swapped others) h g heads rests = absurd (unlike (codes "atom") (codes "swap") refl heads)
  by_parts (atom a) (atom b) h g heads rests = one_atom f a b h g rests
  by_parts (atom a) (part q) h g heads rests = absurd (is_no_part (codes "atom") refl q (sym heads))
  by_parts (atom a) (listed o) h g heads rests = absurd (is_no_mark (codes "atom") refl o.mark (sym heads))
  by_parts (atom a) (last n) h g heads rests = absurd (unlike (codes "atom") (codes "end") refl heads)
  by_parts (part p) (version w) h g heads rests = absurd (is_no_part (codes "pddl-cert") refl p heads)
  by_parts (part p) (claims d) h g heads rests = absurd (is_no_part (codes "claim") refl p heads)
  by_parts (part p) (constant j) h g heads rests = absurd (is_no_part (codes "constant") refl p heads)
  by_parts (part p) (swapped others) h g heads rests = absurd (is_no_part (codes "swap") refl p heads)
  by_parts (part p) (atom b) h g heads rests = absurd (is_no_part (codes "atom") refl p heads)
  by_parts (part p) (part q) h g heads rests = ap (λ p. part p) (one_part f few p q h g heads rests)
  by_parts (part p) (listed o) h g heads rests = absurd (part_is_no_mark p o.mark heads)
  by_parts (part p) (last n) h g heads rests = absurd (is_no_part (codes "end") refl p heads)
  by_parts (listed l) (version w) h g heads rests = absurd (is_no_mark (codes "pddl-cert") refl l.mark heads)
  by_parts (listed l) (claims d) h g heads rests = absurd (is_no_mark (codes "claim") refl l.mark heads)
  by_parts (listed l) (constant j) h g heads rests = absurd (is_no_mark (codes "constant") refl l.mark heads)
  by_parts (listed l) (swapped others) h g heads rests = absurd (is_no_mark (codes "swap") refl l.mark heads)
  by_parts (listed l) (atom b) h g heads rests = absurd (is_no_mark (codes "atom") refl l.mark heads)
  by_parts (listed l) (part q) h g heads rests = absurd (part_is_no_mark q l.mark (sym heads))
  by_parts (listed l) (listed o) h g heads rests =
      let rest_of : StateLine → List ℕ = λ l. mark_rest l.mark l.cost ++ numbers_text l.atoms in
      one_state f few (rest_of o) l.cost o.cost l.mark o.mark l.atoms o.atoms
      (record { head = refl; following = rests; within = h }) (record { head = sym heads; following = refl; within = g })
  by_parts (listed l) (last n) h g heads rests = absurd (is_no_mark (codes "end") refl l.mark heads)
  by_parts (last m) (version w) h g heads rests = absurd (unlike (codes "end") (codes "pddl-cert") refl heads)
  by_parts (last m) (claims d) h g heads rests = absurd (unlike (codes "end") (codes "claim") refl heads)
  by_parts (last m) (constant j) h g heads rests = absurd (unlike (codes "end") (codes "constant") refl heads)
  by_parts (last m) (swapped others) h g heads rests = absurd (unlike (codes "end") (codes "swap") refl heads)
  by_parts (last m) (atom b) h g heads rests = absurd (unlike (codes "end") (codes "atom") refl heads)
  by_parts (last m) (part q) h g heads rests = absurd (is_no_part (codes "end") refl q (sym heads))
  by_parts (last m) (listed o) h g heads rests = absurd (is_no_mark (codes "end") refl o.mark (sym heads))
  by_parts (last m) (last n) h g heads rests = ap (λ n. last n) (same_number m n h g (some_same (decimal m) (decimal n) rests))

  pub one_line : (l m : TextLine) → IsTrue (is_line f l) → IsTrue (is_line f m) → line_text l ≡ line_text m → l ≡ m
  one_line l m h g same =
      let both = one_first (line_head l) (line_head m) (line_rest l) (line_rest m) (head_is_word l) (head_is_word m) (sym (line_splits l) ∙ same ∙ line_splits m) in
      by_parts l m h g both.0 both.1
