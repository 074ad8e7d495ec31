-- The lines of states and atoms, by what follows their first word.
use Rattle.std.proofs.Common.{◌≡◌, ℕ, Bool, true, false, List, [], ◌∷◌, ◌++◌, codes, map, Option, None, Some, refl, sym, ap, ◌∙◌, subst, append_assoc, append-nil, arith}
use Rattle.std.specs.Prelude.{◌≢◌, ◌&&◌, ◌||◌, ◌<◌, ◌≤◌, ◌==◌, ℤ, IsTrue, length, nat_le, nat_lt}
use Rattle.std.specs.Fmt.{decimal}
use Rattle.std.specs.List.{flat_map, list_all}
use Rattle.std.specs.Str.{bytes_eq}
use Rattle.std.proofs.lemmas.Slice.Eq.{bytes_eq-Decides}
use Rattle.std.proofs.lemmas.Bool.{and_parts, eqb-true, leb-true, le-leb, lt-ltb, ltb-true, ltb-false}
use Rattle.std.proofs.lemmas.Bool.Decides.{nat_tests}
use Rattle.std.proofs.lemmas.List.{append_cancel_left, append_cancel_right}
use Rattle.model.specs.PlanWriting.{is_lower_name}
use Rattle.certificate_definitions.specs.Evidence.{of_all, landmark, LineMark, expanded, cut, dead}
use Rattle.certificate_definitions.specs.Certificates.{Version, one, two, three, four, is_number, is_mark, is_weight, are_weights, has_exchanges, has_landmarks, rise}
use Rattle.lower_bounds.specs.LandmarkLines.{zone, value, most_values}
use Rattle.certificate_definitions.specs.CertificateText.{NamedAtom, WeightedAtom, scope, row, tabled, landmark_line, Part, Format, TextLine, version, claims, constant, swapped, atom, part, listed, last, after_blank, are_exchanged, is_weight_count, is_line, line_text, longest_line}
use Rattle.certificate_reader.specs.Words.{IsBasisFirst, IsCut, IsFirstWord, IsLeading, IsNumbered, IsReadAs, are_lower, atom_rest, is_part_word, is_state_word, line_rest, mark_head, part_head, then_weights, then_words, with_rest}
use Rattle.certificate_reader.proofs.WordLemmas.{one_first}
use Rattle.certificate_reader.proofs.LineLemmas.{line_splits, lower_name_is_word, number_is_word, some_same, words_after}
use Rattle.certificate_reader.proofs.NumbersRead.{same_number}
use Rattle.certificate_reader.proofs.WeightsRead.{leading, leading_alone, one_leading}

-- ---- a number, followed by numbers

module _ (bytes word : List ℕ) (following : Option (List ℕ)) (count : ℕ) (first : IsFirstWord bytes word following) where
  numbered_parts : (n : ℕ) (atoms : List ℕ) → IsNumbered bytes count n atoms → (word ≡ decimal n) × (following ≡ then_words (map decimal atoms) None)
  numbered_parts n atoms is =
      one_first word (decimal n) following (then_words (map decimal atoms) None) first.is_word (number_is_word n is.is_number) (sym first.splits ∙ is.splits)

  pub no_number_first : ((n : ℕ) → IsTrue (is_number n) → decimal n ≡ word → ⊥) → (n : ℕ) (atoms : List ℕ) → IsNumbered bytes count n atoms → ⊥
  no_number_first never n atoms is = never n is.is_number (sym (numbered_parts n atoms is).0)

  pub no_numbers_after : ((atoms : List ℕ) → IsTrue (rise count 0 atoms) → then_words (map decimal atoms) None ≡ following → ⊥)
      → (n : ℕ) (atoms : List ℕ) → IsNumbered bytes count n atoms → ⊥
  no_numbers_after never n atoms is = never atoms is.rising (sym (numbered_parts n atoms is).1)

  pub is_numbered : (n : ℕ) (atoms : List ℕ) → IsTrue (is_number n) → decimal n ≡ word → IsTrue (rise count 0 atoms)
      → then_words (map decimal atoms) None ≡ following → IsNumbered bytes count n atoms
  is_numbered n atoms is same rising numbers = record {
    is_number = is;
    rising = rising;
    splits = first.splits ∙ (λ i. with_rest (sym same i) (sym numbers i));
  }

-- ---- other lines

pub unlike : (text other : List ℕ) → bytes_eq text other ≡ false → text ≡ other → ⊥
unlike text other differ same = absurd (cc (sym differ ∙ (bytes_eq-Decides text other).1 same))

or_false : (a b : Bool) → a || b ≡ false → (a ≡ false) × (b ≡ false)
or_false true b other = absurd (cc other)
or_false false b other = (refl, other)

-- no state line begins with the word
pub is_no_mark : (word : List ℕ) → is_state_word word ≡ false → (mark : LineMark) → mark_head mark ≡ word → ⊥
is_no_mark word other mark head = by_mark mark head
  where
    is : List ℕ → Bool
    is = bytes_eq word

    four : (is (codes "open") || is (codes "cut") || is (codes "dead") || is (codes "cut-by") ≡ false) × (is (codes "dead-by") ≡ false)
    four = or_false (is (codes "open") || is (codes "cut") || is (codes "dead") || is (codes "cut-by")) (is (codes "dead-by")) other

    three : (is (codes "open") || is (codes "cut") || is (codes "dead") ≡ false) × (is (codes "cut-by") ≡ false)
    three = or_false (is (codes "open") || is (codes "cut") || is (codes "dead")) (is (codes "cut-by")) four.0

    two : (is (codes "open") || is (codes "cut") ≡ false) × (is (codes "dead") ≡ false)
    two = or_false (is (codes "open") || is (codes "cut")) (is (codes "dead")) three.0

    one_each : (is (codes "open") ≡ false) × (is (codes "cut") ≡ false)
    one_each = or_false (is (codes "open")) (is (codes "cut")) two.0

    by_mark : (mark : LineMark) → mark_head mark ≡ word → ⊥
    by_mark expanded head = unlike word (codes "open") one_each.0 (sym head)
    by_mark (cut of_all rest) head = unlike word (codes "cut") one_each.1 (sym head)
    by_mark (dead of_all) head = unlike word (codes "dead") two.1 (sym head)
    by_mark (cut (landmark number) rest) head = unlike word (codes "cut-by") three.1 (sym head)
    by_mark (dead (landmark number)) head = unlike word (codes "dead-by") four.1 (sym head)

-- nor does a part
pub is_no_part : (word : List ℕ) → is_part_word word ≡ false → (p : Part) → part_head p ≡ word → ⊥
is_no_part word other p head = by_part p head
  where
    is : List ℕ → Bool
    is own = bytes_eq own word

    three : (is (codes "table") || is (codes "row") || is (codes "zone") ≡ false) × (is (codes "marks") ≡ false)
    three = or_false (is (codes "table") || is (codes "row") || is (codes "zone")) (is (codes "marks")) other

    two : (is (codes "table") || is (codes "row") ≡ false) × (is (codes "zone") ≡ false)
    two = or_false (is (codes "table") || is (codes "row")) (is (codes "zone")) three.0

    one_each : (is (codes "table") ≡ false) × (is (codes "row") ≡ false)
    one_each = or_false (is (codes "table")) (is (codes "row")) two.0

    by_part : (p : Part) → part_head p ≡ word → ⊥
    by_part (tabled (scope atoms)) head = unlike (codes "table") word one_each.0 head
    by_part (tabled (row r)) head = unlike (codes "row") word one_each.1 head
    by_part (landmark_line (zone z)) head = unlike (codes "zone") word two.1 head
    by_part (landmark_line (value shares)) head = unlike (codes "marks") word three.1 head

-- a state line whose first word is none of the others begins with `dead-by`
pub is_dead_by : (word : List ℕ) → IsTrue (is_state_word word) → bytes_eq word (codes "open") ≡ false → bytes_eq word (codes "cut") ≡ false → bytes_eq word (codes "dead") ≡ false
    → bytes_eq word (codes "cut-by") ≡ false → bytes_eq word (codes "dead-by") ≡ true
is_dead_by word is no_open no_cut no_dead no_cut_by = sym (λ i. no_open i || no_cut i || no_dead i || no_cut_by i || bytes_eq word (codes "dead-by")) ∙ is

-- ---- marks by their first words

pub marks_open : (mark : LineMark) → mark_head mark ≡ codes "open" → mark ≡ expanded
marks_open expanded head = refl
marks_open (cut of_all least) head = absurd (unlike (codes "cut") (codes "open") refl head)
marks_open (dead of_all) head = absurd (unlike (codes "dead") (codes "open") refl head)
marks_open (cut (landmark number) least) head = absurd (unlike (codes "cut-by") (codes "open") refl head)
marks_open (dead (landmark number)) head = absurd (unlike (codes "dead-by") (codes "open") refl head)

pub marks_cut : (mark : LineMark) → mark_head mark ≡ codes "cut" → (least : ℕ) × (mark ≡ cut of_all least)
marks_cut (cut of_all least) head = (least, refl)
marks_cut expanded head = absurd (unlike (codes "open") (codes "cut") refl head)
marks_cut (dead of_all) head = absurd (unlike (codes "dead") (codes "cut") refl head)
marks_cut (cut (landmark number) least) head = absurd (unlike (codes "cut-by") (codes "cut") refl head)
marks_cut (dead (landmark number)) head = absurd (unlike (codes "dead-by") (codes "cut") refl head)

pub marks_dead : (mark : LineMark) → mark_head mark ≡ codes "dead" → mark ≡ dead of_all
marks_dead (dead of_all) head = refl
marks_dead expanded head = absurd (unlike (codes "open") (codes "dead") refl head)
marks_dead (cut of_all least) head = absurd (unlike (codes "cut") (codes "dead") refl head)
marks_dead (cut (landmark number) least) head = absurd (unlike (codes "cut-by") (codes "dead") refl head)
marks_dead (dead (landmark number)) head = absurd (unlike (codes "dead-by") (codes "dead") refl head)

pub marks_cut_by : (mark : LineMark) → mark_head mark ≡ codes "cut-by" → (number : ℕ) × (least : ℕ) × (mark ≡ cut (landmark number) least)
marks_cut_by (cut (landmark number) least) head = (number, least, refl)
marks_cut_by expanded head = absurd (unlike (codes "open") (codes "cut-by") refl head)
marks_cut_by (cut of_all least) head = absurd (unlike (codes "cut") (codes "cut-by") refl head)
marks_cut_by (dead of_all) head = absurd (unlike (codes "dead") (codes "cut-by") refl head)
marks_cut_by (dead (landmark number)) head = absurd (unlike (codes "dead-by") (codes "cut-by") refl head)

pub marks_dead_by : (mark : LineMark) → mark_head mark ≡ codes "dead-by" → (number : ℕ) × (mark ≡ dead (landmark number))
marks_dead_by (dead (landmark number)) head = (number, refl)
marks_dead_by expanded head = absurd (unlike (codes "open") (codes "dead-by") refl head)
marks_dead_by (cut of_all least) head = absurd (unlike (codes "cut") (codes "dead-by") refl head)
marks_dead_by (dead of_all) head = absurd (unlike (codes "dead") (codes "dead-by") refl head)
marks_dead_by (cut (landmark number) least) head = absurd (unlike (codes "cut-by") (codes "dead-by") refl head)

and_all : (a b c : Bool) → a ≡ true → b ≡ true → c ≡ true → a && b && c ≡ true
and_all a b c x y z = λ i. x i && y i && z i

-- a line that begins with a state's word is a state line
module _ (word : List ℕ) (no_version : bytes_eq (codes "pddl-cert") word ≡ false) (no_claim : bytes_eq (codes "claim") word ≡ false)
    (no_constant : bytes_eq (codes "constant") word ≡ false) (no_atom : bytes_eq (codes "atom") word ≡ false) (no_end : bytes_eq (codes "end") word ≡ false)
    (no_part : is_part_word word ≡ false) (no_swap : bytes_eq (codes "swap") word ≡ false)
    (rest : List ℕ) (f : Format) where
  only_listed : ((cost : ℕ) (mark : LineMark) (atoms : List ℕ) → IsReadAs word rest f (listed (record { cost = cost; mark = mark; atoms = atoms })) → ⊥)
      → (line : TextLine) → IsReadAs word rest f line → ⊥
  only_listed never (version w) read = unlike (codes "pddl-cert") word no_version read.head
  only_listed never (claims claim) read = unlike (codes "claim") word no_claim read.head
  only_listed never (constant k) read = unlike (codes "constant") word no_constant read.head
  only_listed never (swapped names) read = unlike (codes "swap") word no_swap read.head
  only_listed never (atom a) read = unlike (codes "atom") word no_atom read.head
  only_listed never (part p) read = is_no_part word no_part p read.head
  only_listed never (listed l) read = never l.cost l.mark l.atoms read
  only_listed never (last n) read = unlike (codes "end") word no_end read.head

-- ---- expanded states and dead ends: a number, followed by numbers

module _ (rest : List ℕ) (f : Format) where
  -- a state line that begins with this word
  abbrev IsState : List ℕ → ℕ → LineMark → List ℕ → Type 0
  IsState word cost mark atoms = IsReadAs word rest f (listed (record { cost = cost; mark = mark; atoms = atoms }))

  pub open_is_read : (cost : ℕ) (atoms : List ℕ) → IsNumbered rest f.atoms cost atoms → IsState (codes "open") cost expanded atoms
  open_is_read cost atoms is = record {
    head = refl;
    following = ap Some (sym (words_after decimal (decimal cost) atoms) ∙ sym is.splits);
    within = and_all (is_number cost) true (rise f.atoms 0 atoms) is.is_number refl is.rising;
  }

  pub open_parts : (cost : ℕ) (mark : LineMark) (atoms : List ℕ) → IsState (codes "open") cost mark atoms → IsNumbered rest f.atoms cost atoms
  open_parts cost mark atoms read = of_opened (subst (λ mark. IsState (codes "open") cost mark atoms) (marks_open mark read.head) read)
    where
      of_opened : IsState (codes "open") cost expanded atoms → IsNumbered rest f.atoms cost atoms
      of_opened read =
          let parts = and_parts (is_number cost && true) (rise f.atoms 0 atoms) read.within in
          record {
            is_number = (and_parts (is_number cost) true parts.0).0;
            rising = parts.1;
            splits = sym (some_same _ _ read.following) ∙ sym (words_after decimal (decimal cost) atoms);
          }

  pub no_open : ((n : ℕ) (atoms : List ℕ) → IsNumbered rest f.atoms n atoms → ⊥) → (line : TextLine) → IsReadAs (codes "open") rest f line → ⊥
  no_open never = only_listed (codes "open") refl refl refl refl refl refl refl rest f (λ cost mark atoms read. never cost atoms (open_parts cost mark atoms read))

  pub dead_is_read : IsTrue (is_mark f.version (dead of_all)) → (cost : ℕ) (atoms : List ℕ) → IsNumbered rest f.atoms cost atoms → IsState (codes "dead") cost (dead of_all) atoms
  dead_is_read allowed cost atoms is = record {
    head = refl;
    following = ap Some (sym (words_after decimal (decimal cost) atoms) ∙ sym is.splits);
    within = and_all (is_number cost) (is_mark f.version (dead of_all)) (rise f.atoms 0 atoms) is.is_number allowed is.rising;
  }

  pub dead_parts : (cost : ℕ) (mark : LineMark) (atoms : List ℕ) → IsState (codes "dead") cost mark atoms → IsNumbered rest f.atoms cost atoms
  dead_parts cost mark atoms read = of_dead (subst (λ mark. IsState (codes "dead") cost mark atoms) (marks_dead mark read.head) read)
    where
      of_dead : IsState (codes "dead") cost (dead of_all) atoms → IsNumbered rest f.atoms cost atoms
      of_dead read =
          let parts = and_parts (is_number cost && is_mark f.version (dead of_all)) (rise f.atoms 0 atoms) read.within in
          record {
            is_number = (and_parts (is_number cost) (is_mark f.version (dead of_all)) parts.0).0;
            rising = parts.1;
            splits = sym (some_same _ _ read.following) ∙ sym (words_after decimal (decimal cost) atoms);
          }

  pub no_dead : ((n : ℕ) (atoms : List ℕ) → IsNumbered rest f.atoms n atoms → ⊥) → (line : TextLine) → IsReadAs (codes "dead") rest f line → ⊥
  no_dead never = only_listed (codes "dead") refl refl refl refl refl refl refl rest f (λ cost mark atoms read. never cost atoms (dead_parts cost mark atoms read))

-- ---- cuts

cut_text : (cost least : ℕ) (atoms : List ℕ)
    → with_rest (decimal cost) (Some (with_rest (decimal least) (then_words (map decimal atoms) None)))
    ≡ (decimal cost ++ after_blank (decimal least)) ++ flat_map (λ (number : ℕ). after_blank (decimal number)) atoms
cut_text cost least atoms =
    ap (λ bytes. decimal cost ++ codes " " ++ bytes) (words_after decimal (decimal least) atoms)
    ∙ append_assoc (decimal cost) (codes " ") (decimal least ++ flat_map (λ (number : ℕ). after_blank (decimal number)) atoms)
    ∙ sym (append_assoc (decimal cost) (codes " " ++ decimal least) (flat_map (λ (number : ℕ). after_blank (decimal number)) atoms))

-- the bytes of a cut after its first word
cut_splits : (rest : List ℕ) (count cost least : ℕ) (atoms : List ℕ) → IsCut rest count cost least atoms
    → rest ≡ (decimal cost ++ after_blank (decimal least)) ++ flat_map (λ (number : ℕ). after_blank (decimal number)) atoms
cut_splits rest count cost least atoms is = is.splits ∙ ap (λ bytes. with_rest (decimal cost) (Some bytes)) is.numbered.splits ∙ cut_text cost least atoms

is_cut_text : (count cost least : ℕ) (atoms : List ℕ) → IsTrue (is_number cost) → IsTrue (is_number least) → IsTrue (rise count 0 atoms)
    → IsCut ((decimal cost ++ after_blank (decimal least)) ++ flat_map (λ (number : ℕ). after_blank (decimal number)) atoms) count cost least atoms
is_cut_text count cost least atoms cost_is least_is rising = record {
  is_number = cost_is;
  bytes = with_rest (decimal least) (then_words (map decimal atoms) None);
  numbered = record { is_number = least_is; rising = rising; splits = refl };
  splits = sym (cut_text cost least atoms);
}

module _ (rest : List ℕ) (count : ℕ) (word : List ℕ) (following : Option (List ℕ)) (first : IsFirstWord rest word following) where
  cut_first : (cost least : ℕ) (atoms : List ℕ) (is : IsCut rest count cost least atoms) → (word ≡ decimal cost) × (following ≡ Some is.bytes)
  cut_first cost least atoms is =
      one_first word (decimal cost) following (Some is.bytes) first.is_word (number_is_word cost is.is_number) (sym first.splits ∙ is.splits)

  pub no_cut_cost : ((n : ℕ) → IsTrue (is_number n) → decimal n ≡ word → ⊥) → (cost least : ℕ) (atoms : List ℕ) → IsCut rest count cost least atoms → ⊥
  no_cut_cost never cost least atoms is = never cost is.is_number (sym (cut_first cost least atoms is).0)

  pub no_cut_alone : following ≡ None → (cost least : ℕ) (atoms : List ℕ) → IsCut rest count cost least atoms → ⊥
  no_cut_alone alone cost least atoms is = absurd (cc (sym alone ∙ (cut_first cost least atoms is).1))

  pub no_cut_after : (bytes : List ℕ) → following ≡ Some bytes → ((n : ℕ) (atoms : List ℕ) → IsNumbered bytes count n atoms → ⊥)
      → (cost least : ℕ) (atoms : List ℕ) → IsCut rest count cost least atoms → ⊥
  no_cut_after bytes at never cost least atoms is =
      let same : is.bytes ≡ bytes = cc (sym (cut_first cost least atoms is).1 ∙ at) in
      never least atoms (subst (λ bytes. IsNumbered bytes count least atoms) same is.numbered)

  pub is_cut : (bytes : List ℕ) → following ≡ Some bytes → (cost least : ℕ) (atoms : List ℕ) → IsTrue (is_number cost) → decimal cost ≡ word
      → IsNumbered bytes count least atoms → IsCut rest count cost least atoms
  is_cut bytes at cost least atoms is same numbered = record {
    is_number = is;
    bytes = bytes;
    numbered = numbered;
    splits = first.splits ∙ (λ i. with_rest (sym same i) (at i));
  }

module _ (rest : List ℕ) (f : Format) where
  pub cut_is_read : (cost least : ℕ) (atoms : List ℕ) → IsCut rest f.atoms cost least atoms → IsState rest f (codes "cut") cost (cut of_all least) atoms
  cut_is_read cost least atoms is = record {
    head = refl;
    following = ap Some (sym (cut_splits rest f.atoms cost least atoms is));
    within = and_all (is_number cost) (is_number least) (rise f.atoms 0 atoms) is.is_number is.numbered.is_number is.numbered.rising;
  }

  pub cut_of : (cost least : ℕ) (atoms : List ℕ) → IsState rest f (codes "cut") cost (cut of_all least) atoms → IsCut rest f.atoms cost least atoms
  cut_of cost least atoms read =
      let parts = and_parts (is_number cost && is_number least) (rise f.atoms 0 atoms) read.within in
      let numbers = and_parts (is_number cost) (is_number least) parts.0 in
      subst (λ rest. IsCut rest f.atoms cost least atoms) (some_same _ _ read.following) (is_cut_text f.atoms cost least atoms numbers.0 numbers.1 parts.1)

  pub no_cut : ((cost least : ℕ) (atoms : List ℕ) → IsCut rest f.atoms cost least atoms → ⊥) → (line : TextLine) → IsReadAs (codes "cut") rest f line → ⊥
  no_cut never = only_listed (codes "cut") refl refl refl refl refl refl refl rest f (λ cost mark atoms read.
      let (least, same) = marks_cut mark read.head in
      never cost least atoms (cut_of cost least atoms (subst (λ mark. IsState rest f (codes "cut") cost mark atoms) same read)))

-- ---- cuts and dead ends that rest on a landmark value

pub is_small : (number : ℕ) → nat_lt number most_values ≡ true → IsTrue (is_number number)
is_small number few = lt-ltb number 1152921504606846976 (omega (arith, ltb-true number most_values few))

-- a number and what follows it
by_text : (number : ℕ) (text numbers : List ℕ) → (decimal number ++ after_blank text) ++ numbers ≡ with_rest (decimal number) (Some (text ++ numbers))
by_text number text numbers = append_assoc (decimal number) (after_blank text) numbers ∙ sym (append_assoc (decimal number) (codes " ") (text ++ numbers))

pub one_basis : (bytes : List ℕ) (v : Version) (m n : ℕ) (r s : List ℕ) → IsBasisFirst bytes v m r → IsBasisFirst bytes v n s → (m ≡ n) × (r ≡ s)
one_basis bytes v m n r s h g =
    let m_is = is_small m (and_parts (has_landmarks v) (nat_lt m most_values) h.allowed).1 in
    let n_is = is_small n (and_parts (has_landmarks v) (nat_lt n most_values) g.allowed).1 in
    let both = one_first (decimal m) (decimal n) (Some r) (Some s) (number_is_word m m_is) (number_is_word n n_is) (sym h.splits ∙ g.splits) in
    (same_number m n m_is n_is both.0, some_same r s both.1)

module _ (bytes : List ℕ) (v : Version) where
  pub no_landmarks : has_landmarks v ≡ false → (number : ℕ) (rest : List ℕ) → IsBasisFirst bytes v number rest → ⊥
  no_landmarks none number rest is = absurd (cc (sym none ∙ (and_parts (has_landmarks v) (nat_lt number most_values) is.allowed).0))

  module _ (word : List ℕ) (following : Option (List ℕ)) (first : IsFirstWord bytes word following) where
    basis_first : (number : ℕ) (rest : List ℕ) → IsBasisFirst bytes v number rest → (word ≡ decimal number) × (following ≡ Some rest) × (number < most_values)
    basis_first number rest is =
        let few = (and_parts (has_landmarks v) (nat_lt number most_values) is.allowed).1 in
        let both = one_first word (decimal number) following (Some rest) first.is_word (number_is_word number (is_small number few)) (sym first.splits ∙ is.splits) in
        (both.0, both.1, ltb-true number most_values few)

    pub no_basis_number : ((n : ℕ) → 0 ≤ n → n < most_values → decimal n ≢ word) → (number : ℕ) (rest : List ℕ) → IsBasisFirst bytes v number rest → ⊥
    no_basis_number never number rest is =
        let (same, _, few) = basis_first number rest is in
        never number (omega arith) few (sym same)

    pub no_basis_alone : following ≡ None → (number : ℕ) (rest : List ℕ) → IsBasisFirst bytes v number rest → ⊥
    no_basis_alone alone number rest is = absurd (cc (sym alone ∙ (basis_first number rest is).1))

    pub is_basis_first : has_landmarks v ≡ true → (number : ℕ) → number < most_values → decimal number ≡ word → (rest : List ℕ) → following ≡ Some rest → IsBasisFirst bytes v number rest
    is_basis_first has number few same rest at = record {
      allowed = (λ i. has i && lt-ltb number most_values few i);
      splits = first.splits ∙ (λ i. with_rest (sym same i) (at i));
    }

-- only version 4 has marks that rest on landmark values
pub dead_by_allowed : (v : Version) (number : ℕ) → IsTrue (is_mark v (dead (landmark number))) → IsTrue (has_landmarks v && nat_lt number most_values)
dead_by_allowed one number is = absurd (cc is)
dead_by_allowed two number is = is
dead_by_allowed three number is = is
dead_by_allowed four number is = is

is_dead_by_mark : (v : Version) (number : ℕ) → IsTrue (has_landmarks v && nat_lt number most_values) → IsTrue (is_mark v (dead (landmark number)))
is_dead_by_mark one number is = absurd (cc is)
is_dead_by_mark two number is = is
is_dead_by_mark three number is = is
is_dead_by_mark four number is = is

module _ (rest : List ℕ) (f : Format) where
  pub cut_by_is_read : (number : ℕ) (bytes : List ℕ) → IsBasisFirst rest f.version number bytes → (cost least : ℕ) (atoms : List ℕ) → IsCut bytes f.atoms cost least atoms
      → IsState rest f (codes "cut-by") cost (cut (landmark number) least) atoms
  cut_by_is_read number bytes by cost least atoms is =
      let allowed : IsTrue (is_mark f.version (cut (landmark number) least)) = λ i. by.allowed i && is.numbered.is_number i in
      record {
        head = refl;
        following = ap Some (by_text number (decimal cost ++ after_blank (decimal least)) (flat_map (λ (number : ℕ). after_blank (decimal number)) atoms)
            ∙ ap (λ bytes. with_rest (decimal number) (Some bytes)) (sym (cut_splits bytes f.atoms cost least atoms is)) ∙ sym by.splits);
        within = and_all (is_number cost) (is_mark f.version (cut (landmark number) least)) (rise f.atoms 0 atoms) is.is_number allowed is.numbered.rising;
      }

  pub cut_by_of : (number cost least : ℕ) (atoms : List ℕ) → IsState rest f (codes "cut-by") cost (cut (landmark number) least) atoms
      → (bytes : List ℕ) × IsBasisFirst rest f.version number bytes × IsCut bytes f.atoms cost least atoms
  cut_by_of number cost least atoms read =
      let parts = and_parts (is_number cost && is_mark f.version (cut (landmark number) least)) (rise f.atoms 0 atoms) read.within in
      let (cost_is, marked) = and_parts (is_number cost) (is_mark f.version (cut (landmark number) least)) parts.0 in
      let (allowed, least_is) = and_parts (has_landmarks f.version && nat_lt number most_values) (is_number least) marked in
      let numbers : List ℕ = flat_map (λ (number : ℕ). after_blank (decimal number)) atoms in
      let bytes : List ℕ = (decimal cost ++ after_blank (decimal least)) ++ numbers in (
        bytes,
        record { allowed = allowed; splits = sym (some_same _ _ read.following) ∙ by_text number (decimal cost ++ after_blank (decimal least)) numbers },
        is_cut_text f.atoms cost least atoms cost_is least_is parts.1,
      )

  pub no_cut_by : ((number cost least : ℕ) (atoms bytes : List ℕ) → IsBasisFirst rest f.version number bytes → IsCut bytes f.atoms cost least atoms → ⊥)
      → (line : TextLine) → IsReadAs (codes "cut-by") rest f line → ⊥
  no_cut_by never = only_listed (codes "cut-by") refl refl refl refl refl refl refl rest f (λ cost mark atoms read.
      let (number, least, same) = marks_cut_by mark read.head in
      let (bytes, by, is) = cut_by_of number cost least atoms (subst (λ mark. IsState rest f (codes "cut-by") cost mark atoms) same read) in
      never number cost least atoms bytes by is)

  pub dead_by_is_read : (number : ℕ) (bytes : List ℕ) → IsBasisFirst rest f.version number bytes → (cost : ℕ) (atoms : List ℕ) → IsNumbered bytes f.atoms cost atoms
      → IsState rest f (codes "dead-by") cost (dead (landmark number)) atoms
  dead_by_is_read number bytes by cost atoms is = record {
    head = refl;
    following = ap Some (by_text number (decimal cost) (flat_map (λ (number : ℕ). after_blank (decimal number)) atoms)
        ∙ ap (λ bytes. with_rest (decimal number) (Some bytes)) (sym (words_after decimal (decimal cost) atoms) ∙ sym is.splits) ∙ sym by.splits);
    within = and_all (is_number cost) (is_mark f.version (dead (landmark number))) (rise f.atoms 0 atoms) is.is_number (is_dead_by_mark f.version number by.allowed) is.rising;
  }

  pub dead_by_of : (number cost : ℕ) (atoms : List ℕ) → IsState rest f (codes "dead-by") cost (dead (landmark number)) atoms
      → (bytes : List ℕ) × IsBasisFirst rest f.version number bytes × IsNumbered bytes f.atoms cost atoms
  dead_by_of number cost atoms read =
      let parts = and_parts (is_number cost && is_mark f.version (dead (landmark number))) (rise f.atoms 0 atoms) read.within in
      let (cost_is, marked) = and_parts (is_number cost) (is_mark f.version (dead (landmark number))) parts.0 in
      let numbers : List ℕ = flat_map (λ (number : ℕ). after_blank (decimal number)) atoms in (
        decimal cost ++ numbers,
        record { allowed = dead_by_allowed f.version number marked; splits = sym (some_same _ _ read.following) ∙ by_text number (decimal cost) numbers },
        record { is_number = cost_is; rising = parts.1; splits = sym (words_after decimal (decimal cost) atoms) },
      )

  pub no_dead_by : ((number cost : ℕ) (atoms bytes : List ℕ) → IsBasisFirst rest f.version number bytes → IsNumbered bytes f.atoms cost atoms → ⊥)
      → (line : TextLine) → IsReadAs (codes "dead-by") rest f line → ⊥
  no_dead_by never = only_listed (codes "dead-by") refl refl refl refl refl refl refl rest f (λ cost mark atoms read.
      let (number, same) = marks_dead_by mark read.head in
      let (bytes, by, is) = dead_by_of number cost atoms (subst (λ mark. IsState rest f (codes "dead-by") cost mark atoms) same read) in
      never number cost atoms bytes by is)

-- ---- weights, one for each value and one for dead ends

eqb_same : (a b : ℕ) → a ≡ b → (a == b) ≡ true
eqb_same a b same = grind (arith, nat_tests, same)

-- there are as many weights as in the format
pub weights_within : (words : Option (List ℕ)) (count : ℕ) (weights : List ℤ) (others : Option (List ℕ)) → IsLeading words count weights others → (length weights < count → ⊥)
    → IsTrue (are_weights count weights)
weights_within words count weights others is whole =
    λ i. eqb_same (length weights) count (omega_cases (length weights) count is.few whole) i && is.are i
  where
    omega_cases : (n m : ℕ) → n ≤ m → (n < m → ⊥) → n ≡ m
    omega_cases n m few not_fewer = by_test (nat_lt n m) refl
      where
        by_test : (b : Bool) → nat_lt n m ≡ b → n ≡ m
        by_test true fewer = absurd (not_fewer (ltb-true n m fewer))
        by_test false other = omega (arith, few, ltb-false n m other)

-- and the converse
pub weights_lead : (words : Option (List ℕ)) (count : ℕ) (weights : List ℤ) (others : Option (List ℕ)) → IsTrue (are_weights count weights) → then_weights weights others ≡ words
    → IsLeading words count weights others
weights_lead words count weights others are splits =
    let (long, all) = and_parts (length weights == count) (list_all is_weight weights) are in
    leading words count weights others all (eqb-true (length weights) count long) splits

-- words contain this many weights in only one way
pub same_weights : (count : ℕ) (a b : List ℤ) (r s : Option (List ℕ)) → IsTrue (are_weights count a) → IsTrue (are_weights count b) → then_weights a r ≡ then_weights b s → (a ≡ b) × (r ≡ s)
same_weights count a b r s a_are b_are same = one_leading (then_weights b s) count a b r s (weights_lead (then_weights b s) count a r a_are same) (weights_lead (then_weights b s) count b s b_are refl)

-- ---- the constants

pub few_constants : (v : Version) (n : ℕ) → is_weight_count v n ≡ true → n ≤ 33
few_constants one n is = omega (arith, eqb-true n 1 is)
few_constants two n is = omega (arith, eqb-true n 2 is)
few_constants three n is = leb-true n 33 (and_parts (nat_le 2 n) (nat_le n 33) is).1
few_constants four n is = leb-true n 33 (and_parts (nat_le 2 n) (nat_le n 33) is).1

module _ (rest : List ℕ) (f : Format) where
  pub constant_leads : (k : List ℤ) → IsReadAs (codes "constant") rest f (constant k) → IsLeading (Some rest) 33 k None
  constant_leads k read =
      let (count, all) = and_parts (is_weight_count f.version (length k)) (list_all is_weight k) read.within in
      leading_alone (Some rest) 33 k all (few_constants f.version (length k) count) read.following

  pub only_constant : ((k : List ℤ) → IsReadAs (codes "constant") rest f (constant k) → ⊥) → (line : TextLine) → IsReadAs (codes "constant") rest f line → ⊥
  only_constant never (version w) read = unlike (codes "pddl-cert") (codes "constant") refl read.head
  only_constant never (claims claim) read = unlike (codes "claim") (codes "constant") refl read.head
  only_constant never (constant k) read = never k read
  only_constant never (swapped names) read = unlike (codes "swap") (codes "constant") refl read.head
  only_constant never (atom a) read = unlike (codes "atom") (codes "constant") refl read.head
  only_constant never (part p) read = is_no_part (codes "constant") refl p read.head
  only_constant never (listed l) read = is_no_mark (codes "constant") refl l.mark read.head
  only_constant never (last n) read = unlike (codes "end") (codes "constant") refl read.head

  module _ (w : List ℤ) (following : Option (List ℕ)) (is : IsLeading (Some rest) 33 w following) where
    constant_is : (k : List ℤ) → IsReadAs (codes "constant") rest f (constant k) → (w ≡ k) × (following ≡ None)
    constant_is k read = one_leading (Some rest) 33 w k following None is (constant_leads k read)

    pub constant_continues : (bytes : List ℕ) → following ≡ Some bytes → (line : TextLine) → IsReadAs (codes "constant") rest f line → ⊥
    constant_continues bytes at = only_constant (λ k read. absurd (cc (sym (constant_is k read).1 ∙ at)))

    pub other_count : is_weight_count f.version (length w) ≡ false → (line : TextLine) → IsReadAs (codes "constant") rest f line → ⊥
    other_count other = only_constant (λ k read.
        absurd (cc (sym other ∙ ap (λ k. is_weight_count f.version (length k)) (constant_is k read).0 ∙ (and_parts (is_weight_count f.version (length k)) (list_all is_weight k) read.within).0)))

    pub constant_is_read : following ≡ None → is_weight_count f.version (length w) ≡ true → IsReadAs (codes "constant") rest f (constant w)
    constant_is_read alone count = record {
      head = refl;
      following = ap (then_weights w) (sym alone) ∙ is.splits;
      within = (λ i. count i && is.are i);
    }

-- ---- atoms

-- the bytes are weights, followed by an atom
module _ (rest : List ℕ) (f : Format) where
  atom_within : (a : WeightedAtom) → IsTrue (is_line f (atom a)) → IsTrue (are_weights f.weights a.weights) × IsTrue (are_lower a.atom)
  atom_within a within =
      and_parts (are_weights f.weights a.weights) (are_lower a.atom)
      (and_parts (are_weights f.weights a.weights && are_lower a.atom) (nat_le (length (line_text (atom a))) longest_line) within).0

  atom_leads : (a : WeightedAtom) → IsReadAs (codes "atom") rest f (atom a) → IsLeading (Some rest) f.weights a.weights (Some (atom_rest a.atom))
  atom_leads a read = weights_lead (Some rest) f.weights a.weights (Some (atom_rest a.atom)) (atom_within a read.within).0 read.following

  pub no_weights_first : ((w : List ℤ) (following : Option (List ℕ)) → IsLeading (Some rest) f.weights w following → ⊥)
      → (a : WeightedAtom) → IsReadAs (codes "atom") rest f (atom a) → ⊥
  no_weights_first never a read = never a.weights (Some (atom_rest a.atom)) (atom_leads a read)

  module _ (w : List ℤ) (following : Option (List ℕ)) (is : IsLeading (Some rest) f.weights w following) where
    after_is : (a : WeightedAtom) → IsReadAs (codes "atom") rest f (atom a) → following ≡ Some (atom_rest a.atom)
    after_is a read = (one_leading (Some rest) f.weights w a.weights following (Some (atom_rest a.atom)) is (atom_leads a read)).1

    pub nothing_after : following ≡ None → (a : WeightedAtom) → IsReadAs (codes "atom") rest f (atom a) → ⊥
    nothing_after alone a read = absurd (cc (sym alone ∙ after_is a read))

    pub no_atom_after : (bytes : List ℕ) → following ≡ Some bytes → ((a : NamedAtom) → IsTrue (are_lower a) → atom_rest a ≡ bytes → ⊥)
        → (a : WeightedAtom) → IsReadAs (codes "atom") rest f (atom a) → ⊥
    no_atom_after bytes at never a read =
        never a.atom (atom_within a read.within).1 (some_same (atom_rest a.atom) bytes (sym (after_is a read) ∙ at))

    pub atom_is_read : (bytes : List ℕ) → following ≡ Some bytes → (a : NamedAtom) → IsTrue (are_lower a) → atom_rest a ≡ bytes
        → length (with_rest (codes "atom") (Some rest)) ≤ longest_line → IsReadAs (codes "atom") rest f (atom (record { weights = w; atom = a }))
    atom_is_read bytes at a lower same short =
        let line : TextLine = atom (record { weights = w; atom = a }) in
        let splits : line_rest line ≡ Some rest = ap (λ bytes. then_weights w (Some bytes)) same ∙ ap (then_weights w) (sym at) ∙ is.splits in
        let text : line_text line ≡ with_rest (codes "atom") (Some rest) = line_splits line ∙ ap (with_rest (codes "atom")) splits in
        let fits : nat_le (length (line_text line)) longest_line ≡ true = le-leb (length (line_text line)) longest_line (subst (λ text. length text ≤ longest_line) (sym text) short) in
        record {
          head = refl;
          following = splits;
          within = and_all (are_weights f.weights w) (are_lower a) (nat_le (length (line_text line)) longest_line)
              (weights_within (Some rest) f.weights w following is (λ fewer. absurd (cc (sym (is.stops fewer) ∙ at)))) lower fits;
        }

  pub no_atom : ((a : WeightedAtom) → IsReadAs (codes "atom") rest f (atom a) → ⊥) → (line : TextLine) → IsReadAs (codes "atom") rest f line → ⊥
  no_atom never (version w) read = unlike (codes "pddl-cert") (codes "atom") refl read.head
  no_atom never (claims claim) read = unlike (codes "claim") (codes "atom") refl read.head
  no_atom never (constant k) read = unlike (codes "constant") (codes "atom") refl read.head
  no_atom never (swapped names) read = unlike (codes "swap") (codes "atom") refl read.head
  no_atom never (atom a) read = never a read
  no_atom never (part p) read = is_no_part (codes "atom") refl p read.head
  no_atom never (listed l) read = is_no_mark (codes "atom") refl l.mark read.head
  no_atom never (last n) read = unlike (codes "end") (codes "atom") refl read.head

-- ---- exchanges

module _ (rest : List ℕ) (f : Format) where
  only_swap : ((names : List (List ℕ)) → IsReadAs (codes "swap") rest f (swapped names) → ⊥) → (line : TextLine) → IsReadAs (codes "swap") rest f line → ⊥
  only_swap never (version w) read = unlike (codes "pddl-cert") (codes "swap") refl read.head
  only_swap never (claims claim) read = unlike (codes "claim") (codes "swap") refl read.head
  only_swap never (constant k) read = unlike (codes "constant") (codes "swap") refl read.head
  only_swap never (swapped names) read = never names read
  only_swap never (atom a) read = unlike (codes "atom") (codes "swap") refl read.head
  only_swap never (part p) read = is_no_part (codes "swap") refl p read.head
  only_swap never (listed l) read = is_no_mark (codes "swap") refl l.mark read.head
  only_swap never (last n) read = unlike (codes "end") (codes "swap") refl read.head

  swap_parts : (names : List (List ℕ)) → IsReadAs (codes "swap") rest f (swapped names) → IsTrue (has_exchanges f.version) × IsTrue (are_exchanged names)
  swap_parts names read =
      and_parts (has_exchanges f.version) (are_exchanged names) (and_parts (has_exchanges f.version && are_exchanged names) (nat_le (length (line_text (swapped names))) longest_line) read.within).0

  -- a version without exchanges has no such lines
  pub no_exchanges : has_exchanges f.version ≡ false → (line : TextLine) → IsReadAs (codes "swap") rest f line → ⊥
  no_exchanges none = only_swap (λ names read. absurd (cc (sym none ∙ (swap_parts names read).0)))

  pub no_exchange : ((names : List (List ℕ)) → IsTrue (are_exchanged names) → then_words names None ≡ Some rest → ⊥) → (line : TextLine) → IsReadAs (codes "swap") rest f line → ⊥
  no_exchange never = only_swap (λ names read. never names (swap_parts names read).1 read.following)

  pub swap_is_read : has_exchanges f.version ≡ true → (names : List (List ℕ)) → IsTrue (are_exchanged names) → then_words names None ≡ Some rest
      → length (with_rest (codes "swap") (Some rest)) ≤ longest_line → IsReadAs (codes "swap") rest f (swapped names)
  swap_is_read has names are splits short =
      let text : line_text (swapped names) ≡ with_rest (codes "swap") (Some rest) = line_splits (swapped names) ∙ ap (with_rest (codes "swap")) splits in
      let fits : nat_le (length (line_text (swapped names))) longest_line ≡ true = le-leb (length (line_text (swapped names))) longest_line (subst (λ text. length text ≤ longest_line) (sym text) short) in
      record { head = refl; following = splits; within = (λ i. has i && are i && fits i) }

names_after : (word : List ℕ) (words : List (List ℕ)) → with_rest word (then_words words None) ≡ word ++ flat_map after_blank words
names_after word [] = sym (append-nil word)
names_after word (next ∷ words) =
    ap (λ rest. word ++ codes " " ++ rest) (names_after next words) ∙ append_assoc word (codes " ") (next ++ flat_map after_blank words)

-- an atom, by what is inside its parentheses
abbrev pub inner_of : NamedAtom → List ℕ
inner_of a = with_rest a.predicate (then_words a.objects None)

pub atom_text : (a : NamedAtom) → atom_rest a ≡ codes "(" ++ inner_of a ++ codes ")"
atom_text a = ap (λ inner. inner ++ codes ")")
    (append_assoc (codes "(") a.predicate (flat_map after_blank a.objects) ∙ ap (λ inner. codes "(" ++ inner) (sym (names_after a.predicate a.objects)))

pub same_inner : (x y : List ℕ) → codes "(" ++ x ++ codes ")" ≡ codes "(" ++ y ++ codes ")" → x ≡ y
same_inner x y same = append_cancel_left (codes "(") x y (append_cancel_right (codes "(" ++ x) (codes "(" ++ y) (codes ")") same)

module _ (rest inner : List ℕ) (occurs : rest ≡ codes "(" ++ inner ++ codes ")") (predicate : List ℕ) (following : Option (List ℕ))
    (first : IsFirstWord inner predicate following) where
  atom_parts : (a : NamedAtom) → IsTrue (are_lower a) → atom_rest a ≡ rest → (predicate ≡ a.predicate) × (following ≡ then_words a.objects None)
  atom_parts a lower same =
      let both : inner ≡ inner_of a = same_inner inner (inner_of a) (sym occurs ∙ sym same ∙ atom_text a) in
      one_first predicate a.predicate following (then_words a.objects None) first.is_word
      (lower_name_is_word a.predicate (and_parts (is_lower_name a.predicate) (list_all is_lower_name a.objects) lower).0) (sym first.splits ∙ both)

  pub no_lower_predicate : is_lower_name predicate ≡ false → (a : NamedAtom) → IsTrue (are_lower a) → atom_rest a ≡ rest → ⊥
  no_lower_predicate other a lower same =
      let is = (and_parts (is_lower_name a.predicate) (list_all is_lower_name a.objects) lower).0 in
      absurd (cc (sym other ∙ ap is_lower_name (atom_parts a lower same).0 ∙ is))

  pub no_names_after : ((names : List (List ℕ)) → IsTrue (list_all is_lower_name names) → then_words names None ≡ following → ⊥)
      → (a : NamedAtom) → IsTrue (are_lower a) → atom_rest a ≡ rest → ⊥
  no_names_after never a lower same =
      never a.objects (and_parts (is_lower_name a.predicate) (list_all is_lower_name a.objects) lower).1 (sym (atom_parts a lower same).1)

  pub is_atom_line : is_lower_name predicate ≡ true → (name : List ℕ) (names : List (List ℕ)) → name ≡ predicate
      → IsTrue (list_all is_lower_name names) → then_words names None ≡ following
      → IsTrue (is_lower_name name && list_all is_lower_name names) × (atom_rest (record { predicate = name; objects = names }) ≡ rest)
  is_atom_line is name names same lower read = (
    (λ i. (ap is_lower_name same ∙ is) i && lower i),
    atom_text (record { predicate = name; objects = names })
        ∙ ap (λ inner. codes "(" ++ inner ++ codes ")") ((λ i. with_rest (same i) (read i)) ∙ sym first.splits)
        ∙ sym occurs,
  )
