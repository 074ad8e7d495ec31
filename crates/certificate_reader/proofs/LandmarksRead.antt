-- The lines of zones and landmark values, by what follows their first word.
use Rattle.std.proofs.Common.{◌≡◌, ◌≢◌, ℕ, ◌+◌, ◌<◌, ◌≤◌, true, false, not, List, [], ◌∷◌, ◌++◌, codes, map, length, Option, None, Some, refl, sym, ap, subst, ◌∙◌, arith}
use Rattle.std.specs.Prelude.{◌&&◌, Err, IfNone, IfOk, IfSome, IsTrue, Ok, Result, is_some, nat_le, nat_lt}
use Rattle.std.specs.Borrow.{Bor}
use Rattle.std.specs.Fmt.{decimal}
use Rattle.std.specs.List.{list_all}
use Rattle.std.specs.Str.{bytes_eq}
use Rattle.std.proofs.lemmas.Slice.Eq.{bytes_eq-Decides}
use Rattle.std.proofs.lemmas.Bool.{and_parts, leb-true, le-leb, ltb-true, lt-ltb}
use Rattle.std.proofs.lemmas.Str.Parse.{tells_digits}
use Rattle.lower_bounds.specs.TableFunctions.{is_among}
use Rattle.lower_bounds.specs.LandmarkFunctions.{Zone}
use Rattle.lower_bounds.specs.LandmarkLines.{Share, zone, value, is_zone, is_share, is_value, line_text, most_zones}
use Rattle.certificate_definitions.specs.Certificates.{has_landmarks, is_number, rise}
use Rattle.certificate_definitions.specs.CertificateText.{scope, row, tabled, landmark_line, Part, Format, is_part, longest_line, most_atoms, part}
use Rattle.certificate_reader.specs.Words.{AreLeading, IsFirstWord, IsPartReadAs, IsShareFirst, may_be_share, numbers_then, shares_then, text_in, then_negated, then_numbers, then_words, with_rest}
use Rattle.certificate_reader.proofs.NumberLemmas.{numbers_are_digits}
use Rattle.certificate_reader.proofs.WordLemmas.{one_first}
use Rattle.certificate_reader.proofs.LineLemmas.{line_splits, number_is_word, some_same}
use Rattle.certificate_reader.proofs.NumbersRead.{bytes_left, few_are_numbers, fewer_left, one_leading_numbers, one_then_numbers, rise_parts, same_number}
use Rattle.certificate_reader.proofs.LinesRead.{unlike}

-- a landmark value of a text is one of a version that has them
pub value_within : (f : Format) (shares : List Share) → IsTrue (is_part f (landmark_line (value shares))) → (has_landmarks f.version ≡ true) × (is_value most_zones shares ≡ true)
value_within f shares is =
    and_parts (has_landmarks f.version) (is_value most_zones shares) (and_parts (has_landmarks f.version && is_value most_zones shares) (nat_le (length (line_text (value shares))) longest_line) is).0

-- ---- zones

-- the numbers of a zone ascend
pub zone_rises : (count : ℕ) (z : Zone) → IsTrue (is_zone count z) → IsTrue (rise count 0 z.atoms) × IsTrue (rise count 0 z.negated)
zone_rises count z is =
    let front = (and_parts (rise count 0 z.atoms && rise count 0 z.negated && nat_le 1 (length z.atoms + length z.negated)) (list_all (λ number. not (is_among z.atoms number)) z.negated) is).0 in
    and_parts (rise count 0 z.atoms) (rise count 0 z.negated) (and_parts (rise count 0 z.atoms && rise count 0 z.negated) (nat_le 1 (length z.atoms + length z.negated)) front).0

-- a number is not the word `not`
not_first : (negated : List ℕ) (n : ℕ) (rest : Option (List ℕ)) → IsTrue (is_number n) → then_negated negated ≢ Some (with_rest (decimal n) rest)
not_first [] n rest is same = absurd (cc same)
not_first (k ∷ others) n rest is same =
    let word = (one_first (codes "not") (decimal n) (then_numbers (k ∷ others)) rest refl (number_is_word n is) (some_same (with_rest (codes "not") (then_numbers (k ∷ others))) (with_rest (decimal n) rest) same)).0 in
    let (here, _) = tells_digits.parts 110 (codes "ot") (numbers_are_digits n is (codes "not") (sym word)) in
    absurd (omega (arith, here.1))

-- negated atoms have only one text
pub same_negated : (count : ℕ) → count ≤ most_atoms → (a b : List ℕ) → IsTrue (rise count 0 a) → IsTrue (rise count 0 b) → then_negated a ≡ then_negated b → a ≡ b
same_negated count few [] [] a_rise b_rise same = refl
same_negated count few [] (n ∷ b) a_rise b_rise same = absurd (cc same)
same_negated count few (m ∷ a) [] a_rise b_rise same = absurd (cc same)
same_negated count few (m ∷ a) (n ∷ b) a_rise b_rise same =
    one_then_numbers count few (m ∷ a) (n ∷ b) a_rise b_rise
    (one_first (codes "not") (codes "not") (then_numbers (m ∷ a)) (then_numbers (n ∷ b)) refl refl
    (some_same (with_rest (codes "not") (then_numbers (m ∷ a))) (with_rest (codes "not") (then_numbers (n ∷ b))) same)).1

-- after the word `not` come numbers
pub negated_are : (numbers rest : List ℕ) → then_numbers numbers ≡ Some rest → then_negated numbers ≡ Some (with_rest (codes "not") (Some rest))
negated_are [] rest same = absurd (cc same)
negated_are (n ∷ numbers) rest same = ap (λ rest. Some (with_rest (codes "not") rest)) same

-- bytes with another first word are not negated atoms
module _ (bytes word : List ℕ) (following : Option (List ℕ)) (first : IsFirstWord bytes word following) where
  negated_first : (numbers : List ℕ) → then_negated numbers ≡ Some bytes → (word ≡ codes "not") × (following ≡ then_numbers numbers) × (is_some (then_numbers numbers) ≡ true)
  negated_first [] same = absurd (cc same)
  negated_first (n ∷ numbers) same =
      let both = one_first word (codes "not") following (then_numbers (n ∷ numbers)) first.is_word refl
      (sym first.splits ∙ sym (some_same (with_rest (codes "not") (then_numbers (n ∷ numbers))) bytes same)) in
      (both.0, both.1, refl)

  pub no_negation : bytes_eq word (codes "not") ≡ false → (numbers : List ℕ) → then_negated numbers ≢ Some bytes
  no_negation other numbers same = unlike word (codes "not") other (negated_first numbers same).0

  pub no_negated_alone : following ≡ None → (numbers : List ℕ) → then_negated numbers ≢ Some bytes
  no_negated_alone alone numbers same =
      let (_, after, some) = negated_first numbers same in
      absurd (cc (ap is_some (sym alone ∙ after), some))

  pub no_negated : (rest : List ℕ) → following ≡ Some rest → (count : ℕ) → ((numbers : List ℕ) → IsTrue (rise count 0 numbers) → then_words (map decimal numbers) None ≢ Some rest)
      → (numbers : List ℕ) → IsTrue (rise count 0 numbers) → then_negated numbers ≢ Some bytes
  no_negated rest at count never numbers rising same = never numbers rising (sym (negated_first numbers same).1 ∙ at)

  pub is_negated : (rest : List ℕ) → following ≡ Some rest → bytes_eq word (codes "not") ≡ true → (numbers : List ℕ) → then_words (map decimal numbers) None ≡ Some rest → then_negated numbers ≡ Some bytes
  is_negated rest at is numbers same =
      negated_are numbers rest same ∙ ap Some ((λ i. with_rest (sym ((bytes_eq-Decides word (codes "not")).0 is) i) (sym at i)) ∙ sym first.splits)

-- nothing follows
pub ends_there : (following : Option (Bor (List ℕ))) → is_some following ≡ false → text_in following ≡ None
ends_there None alone = refl
ends_there (Some bytes) alone = absurd (cc alone)

-- what is said of a result is carried over to what follows from it
pub carried_some : {X E : Type 0} (P Q : X → Type 0) (r : Result (Option X) E) → ((x : X) → P x → Q x) → IfOk r (λ found. IfSome found P) → IfOk r (λ found. IfSome found Q)
carried_some P Q (Ok (Some x)) from p = from x p
carried_some P Q (Ok None) from p = p
carried_some P Q (Err e) from p = p

pub carried_none : {X E : Type 0} (P Q : Type 0) (r : Result (Option X) E) → (P → Q) → IfOk r (λ found. IfNone found P) → IfOk r (λ found. IfNone found Q)
carried_none P Q (Ok (Some x)) from p = p
carried_none P Q (Ok None) from p = from p
carried_none P Q (Err e) from p = p

-- a zone's line has one reading
last_is_below : (count least : ℕ) (a : List ℕ) (n : ℕ) → rise count least (a ++ n ∷ []) ≡ true → n < count
last_is_below count least [] n rising = (rise_parts count least n [] rising).1
last_is_below count least (m ∷ a) n rising = last_is_below count (m + 1) a n (rise_parts count least m (a ++ n ∷ []) rising).2

pub one_zone : (count : ℕ) → count ≤ most_atoms → (y z : Zone) → IsTrue (is_zone count y) → IsTrue (is_zone count z)
    → numbers_then y.atoms (then_negated y.negated) ≡ numbers_then z.atoms (then_negated z.negated) → y ≡ z
one_zone count few y z y_is z_is same =
    let (y_rises, y_negated) = zone_rises count y y_is in
    let (z_rises, z_negated) = zone_rises count z z_is in
    let leads : AreLeading (numbers_then y.atoms (then_negated y.negated)) count y.atoms (then_negated y.negated) = record {
      rising = y_rises;
      stops = λ n rest rising. not_first y.negated n rest (few_are_numbers count n (omega (arith, few)) (last_is_below count 0 y.atoms n rising));
      splits = refl;
    } in
    let both = one_leading_numbers (numbers_then y.atoms (then_negated y.negated)) count few y.atoms z.atoms (then_negated y.negated) (then_negated z.negated) leads z_rises (not_first z.negated) (sym same) in
    let others : y.negated ≡ z.negated = same_negated count few y.negated z.negated y_negated z_negated both.1 in
    λ i. record { atoms = both.0 i; negated = others i }

module _ (rest : List ℕ) (f : Format) where
  only_zone : ((z : Zone) → IsPartReadAs (codes "zone") rest f (landmark_line (zone z)) → ⊥) → (p : Part) → IsPartReadAs (codes "zone") rest f p → ⊥
  only_zone never (tabled (scope s)) read = unlike (codes "table") (codes "zone") refl read.head
  only_zone never (tabled (row r)) read = unlike (codes "row") (codes "zone") refl read.head
  only_zone never (landmark_line (zone z)) read = never z read
  only_zone never (landmark_line (value shares)) read = unlike (codes "marks") (codes "zone") refl read.head

  only_marks : ((shares : List Share) → IsPartReadAs (codes "marks") rest f (landmark_line (value shares)) → ⊥) → (p : Part) → IsPartReadAs (codes "marks") rest f p → ⊥
  only_marks never (tabled (scope s)) read = unlike (codes "table") (codes "marks") refl read.head
  only_marks never (tabled (row r)) read = unlike (codes "row") (codes "marks") refl read.head
  only_marks never (landmark_line (zone z)) read = unlike (codes "zone") (codes "marks") refl read.head
  only_marks never (landmark_line (value shares)) read = never shares read

  -- a version without landmark values has neither line
  pub no_zones : has_landmarks f.version ≡ false → (p : Part) → IsPartReadAs (codes "zone") rest f p → ⊥
  no_zones none = only_zone (λ z read. absurd (cc (sym none ∙ (and_parts (has_landmarks f.version) (is_zone f.atoms z) read.within).0)))

  pub no_marks : has_landmarks f.version ≡ false → (p : Part) → IsPartReadAs (codes "marks") rest f p → ⊥
  no_marks none = only_marks (λ shares read. absurd (cc (sym none ∙ (value_within f shares read.within).0)))

  module _ (few : f.atoms ≤ most_atoms) (atoms : List ℕ) (left : Option (List ℕ)) (are : AreLeading (Some rest) f.atoms atoms left) where
    zone_is : (z : Zone) → IsPartReadAs (codes "zone") rest f (landmark_line (zone z)) → IsTrue (is_zone f.atoms z) × (atoms ≡ z.atoms) × (left ≡ then_negated z.negated)
    zone_is z read =
        let is = (and_parts (has_landmarks f.version) (is_zone f.atoms z) read.within).1 in
        let both = one_leading_numbers (Some rest) f.atoms few atoms z.atoms left (then_negated z.negated) are (zone_rises f.atoms z is).0 (not_first z.negated) read.following in
        (is, both.0, both.1)

    pub no_negated_in_zone : ((numbers : List ℕ) → IsTrue (rise f.atoms 0 numbers) → then_negated numbers ≢ left) → (p : Part) → IsPartReadAs (codes "zone") rest f p → ⊥
    no_negated_in_zone never = only_zone (λ z read.
        let (is, _, after) = zone_is z read in
        never z.negated (zone_rises f.atoms z is).1 (sym after))

    module _ (negated : List ℕ) (rising : IsTrue (rise f.atoms 0 negated)) (splits : then_negated negated ≡ left) where
      pub no_zone : is_zone f.atoms (record { atoms = atoms; negated = negated }) ≡ false → (p : Part) → IsPartReadAs (codes "zone") rest f p → ⊥
      no_zone other = only_zone (λ z read.
          let (is, same, after) = zone_is z read in
          let others : negated ≡ z.negated = same_negated f.atoms few negated z.negated rising (zone_rises f.atoms z is).1 (splits ∙ after) in
          absurd (cc (sym other ∙ (λ i. is_zone f.atoms (record { atoms = same i; negated = others i })) ∙ is)))

      pub zone_is_read : has_landmarks f.version ≡ true → is_zone f.atoms (record { atoms = atoms; negated = negated }) ≡ true
          → IsPartReadAs (codes "zone") rest f (landmark_line (zone (record { atoms = atoms; negated = negated })))
      zone_is_read has is = record {
        head = refl;
        following = ap (numbers_then atoms) splits ∙ are.splits;
        within = (λ i. has i && is i);
      }

-- ---- landmark values

shares_may_be : (least : ℕ) (shares : List Share) → rise most_zones least (map (λ (s : Share). s.zone) shares) ≡ true → list_all is_share shares ≡ true → IsTrue (list_all may_be_share shares)
shares_may_be least [] rising all = refl
shares_may_be least (s ∷ shares) rising all =
    let (first, more) = and_parts (nat_le least s.zone && nat_lt s.zone most_zones) (rise most_zones (s.zone + 1) (map (λ (s : Share). s.zone) shares)) rising in
    let below = (and_parts (nat_le least s.zone) (nat_lt s.zone most_zones) first).1 in
    let (here, others) = and_parts (is_share s) (list_all is_share shares) all in
    λ i. (below i && here i) && shares_may_be (s.zone + 1) shares more others i

pub value_may_be : (shares : List Share) → IsTrue (is_value most_zones shares) → IsTrue (list_all may_be_share shares)
value_may_be shares is =
    let (front, all) = and_parts (rise most_zones 0 (map (λ (s : Share). s.zone) shares) && nat_le 1 (length shares)) (list_all is_share shares) is in
    shares_may_be 0 shares (and_parts (rise most_zones 0 (map (λ (s : Share). s.zone) shares)) (nat_le 1 (length shares)) front).0 all

-- the numbers of a share
pub share_numbers : (s : Share) → IsTrue (may_be_share s) → IsTrue (is_number s.zone) × IsTrue (is_number s.weight)
share_numbers s may =
    let (below, is) = and_parts (nat_lt s.zone most_zones) (is_share s) may in
    let most = leb-true s.weight 2147483647 (and_parts (nat_le 1 s.weight) (nat_le s.weight 2147483647) is).1 in
    (lt-ltb s.zone 1152921504606846976 (omega (arith, ltb-true s.zone most_zones below)), lt-ltb s.weight 1152921504606846976 (omega (arith, most)))

-- bytes begin with a share in only one way
one_share : (s t : Share) (r q : Option (List ℕ)) → IsTrue (may_be_share s) → IsTrue (may_be_share t)
    → with_rest (decimal s.zone) (Some (with_rest (decimal s.weight) r)) ≡ with_rest (decimal t.zone) (Some (with_rest (decimal t.weight) q)) → (s ≡ t) × (r ≡ q)
one_share s t r q s_may t_may same =
    let (s_zone, s_weight) = share_numbers s s_may in
    let (t_zone, t_weight) = share_numbers t t_may in
    let zones = one_first (decimal s.zone) (decimal t.zone) (Some (with_rest (decimal s.weight) r)) (Some (with_rest (decimal t.weight) q)) (number_is_word s.zone s_zone) (number_is_word t.zone t_zone) same in
    let weights = one_first (decimal s.weight) (decimal t.weight) r q (number_is_word s.weight s_weight) (number_is_word t.weight t_weight)
    (some_same (with_rest (decimal s.weight) r) (with_rest (decimal t.weight) q) zones.1) in
    let zone_same : s.zone ≡ t.zone = same_number s.zone t.zone s_zone t_zone zones.0 in
    let weight_same : s.weight ≡ t.weight = same_number s.weight t.weight s_weight t_weight weights.0 in
    ((λ i. record { zone = zone_same i; weight = weight_same i }), weights.1)

-- the share after those already read
share_after : (done shares : List Share) (bytes : List ℕ) → IsTrue (list_all may_be_share done) → IsTrue (list_all may_be_share shares) → shares_then done (Some bytes) ≡ shares_then shares None
    → (next : Share) × (rest : Option (List ℕ)) × IsShareFirst bytes next rest
share_after [] [] bytes d w same = absurd (cc same)
share_after [] (s ∷ shares) bytes d w same =
    let (here, more) = and_parts (may_be_share s) (list_all may_be_share shares) w in
    (s, shares_then shares None, record { may_be = here; splits = some_same bytes (with_rest (decimal s.zone) (Some (with_rest (decimal s.weight) (shares_then shares None)))) same })
share_after (first ∷ done) [] bytes d w same = absurd (cc same)
share_after (first ∷ done) (s ∷ shares) bytes d w same =
    let (d_here, d_more) = and_parts (may_be_share first) (list_all may_be_share done) d in
    let (w_here, w_more) = and_parts (may_be_share s) (list_all may_be_share shares) w in
    let left : Option (List ℕ) = shares_then done (Some bytes) in
    let right : Option (List ℕ) = shares_then shares None in
    let both = one_share first s left right d_here w_here
    (some_same (with_rest (decimal first.zone) (Some (with_rest (decimal first.weight) left))) (with_rest (decimal s.zone) (Some (with_rest (decimal s.weight) right))) same) in
    share_after done shares bytes d_more w_more both.1

module _ (start : Option (List ℕ)) (done : List Share) (are : IsTrue (list_all may_be_share done)) (bytes : List ℕ) (read : shares_then done (Some bytes) ≡ start) where
  pub no_shares : ((s : Share) (rest : Option (List ℕ)) → IsShareFirst bytes s rest → ⊥) → (shares : List Share) → IsTrue (list_all may_be_share shares) → shares_then shares None ≢ start
  no_shares never shares may same =
      let (next, rest, is) = share_after done shares bytes are may (read ∙ sym same) in
      never next rest is

  pub one_share_more : (s : Share) (rest : Option (List ℕ)) → IsShareFirst bytes s rest → shares_then (done ++ s ∷ []) rest ≡ start
  one_share_more s rest is = more_shares done s rest ∙ ap (λ bytes. shares_then done (Some bytes)) (sym is.splits) ∙ read
    where
      more_shares : (done : List Share) (s : Share) (rest : Option (List ℕ))
          → shares_then (done ++ s ∷ []) rest ≡ shares_then done (Some (with_rest (decimal s.zone) (Some (with_rest (decimal s.weight) rest))))
      more_shares [] s rest = refl
      more_shares (first ∷ done) s rest = ap (λ left. Some (with_rest (decimal first.zone) (Some (with_rest (decimal first.weight) left)))) (more_shares done s rest)

pub more_may_be : (done : List Share) (s : Share) → IsTrue (list_all may_be_share done) → IsTrue (may_be_share s) → IsTrue (list_all may_be_share (done ++ s ∷ []))
more_may_be [] s all is = λ i. is i && true
more_may_be (first ∷ done) s all is =
    let (here, more) = and_parts (may_be_share first) (list_all may_be_share done) all in
    λ i. here i && more_may_be done s more is i

-- fewer bytes are left behind a share
pub fewer_shares_left : (bytes : List ℕ) (s : Share) (rest : Option (List ℕ)) → IsShareFirst bytes s rest → bytes_left rest < bytes_left (Some bytes)
fewer_shares_left bytes s rest is =
    let (zone_is, weight_is) = share_numbers s is.may_be in
    let after : List ℕ = with_rest (decimal s.weight) rest in
    let first : IsFirstWord bytes (decimal s.zone) (Some after) = record { is_word = number_is_word s.zone zone_is; splits = is.splits } in
    let second : IsFirstWord after (decimal s.weight) rest = record { is_word = number_is_word s.weight weight_is; splits = refl } in
    omega (arith, fewer_left bytes (decimal s.zone) (Some after) first, fewer_left after (decimal s.weight) rest second)

-- a zone's number and a weight, word by word
module _ (bytes word : List ℕ) (following : Option (List ℕ)) (first : IsFirstWord bytes word following) where
  share_zone : (s : Share) (rest : Option (List ℕ)) → IsShareFirst bytes s rest → (decimal s.zone ≡ word) × (following ≡ Some (with_rest (decimal s.weight) rest)) × (s.zone < most_zones)
  share_zone s rest is =
      let both = one_first word (decimal s.zone) following (Some (with_rest (decimal s.weight) rest)) first.is_word (number_is_word s.zone (share_numbers s is.may_be).0) (sym first.splits ∙ is.splits) in
      (sym both.0, both.1, ltb-true s.zone most_zones (and_parts (nat_lt s.zone most_zones) (is_share s) is.may_be).0)

  pub no_share_zone : ((n : ℕ) → 0 ≤ n → n < most_zones → decimal n ≢ word) → (s : Share) (rest : Option (List ℕ)) → IsShareFirst bytes s rest → ⊥
  no_share_zone never s rest is =
      let (same, _, few) = share_zone s rest is in
      never s.zone (omega arith) few same

  pub no_share_alone : following ≡ None → (s : Share) (rest : Option (List ℕ)) → IsShareFirst bytes s rest → ⊥
  no_share_alone alone s rest is = absurd (cc (sym alone ∙ (share_zone s rest is).1))

  module _ (after weight : List ℕ) (at : following ≡ Some after) (others : Option (List ℕ)) (second : IsFirstWord after weight others) where
    pub no_share_weight : ((n : ℕ) → 1 ≤ n → n < 2147483648 → decimal n ≢ weight) → (s : Share) (rest : Option (List ℕ)) → IsShareFirst bytes s rest → ⊥
    no_share_weight never s rest is =
        let within = (and_parts (nat_lt s.zone most_zones) (is_share s) is.may_be).1 in
        let (least, most) = and_parts (nat_le 1 s.weight) (nat_le s.weight 2147483647) within in
        let both = one_first weight (decimal s.weight) others rest second.is_word (number_is_word s.weight (share_numbers s is.may_be).1)
        (sym second.splits ∙ some_same after (with_rest (decimal s.weight) rest) (sym at ∙ (share_zone s rest is).1)) in
        never s.weight (leb-true 1 s.weight least) (omega (arith, leb-true s.weight 2147483647 most)) (sym both.0)

    pub is_share_first : (z w : ℕ) → decimal z ≡ word → z < most_zones → decimal w ≡ weight → 1 ≤ w → w < 2147483648 → IsShareFirst bytes (record { zone = z; weight = w }) others
    is_share_first z w zone_same few weight_same least most = record {
      may_be = (λ i. lt-ltb z most_zones few i && (le-leb 1 w least i && le-leb w 2147483647 (omega (arith, most)) i));
      splits = first.splits ∙ (λ i. with_rest (sym zone_same i) ((at ∙ ap Some (second.splits ∙ (λ j. with_rest (sym weight_same j) others))) i));
    }

same_shares : (a b : List Share) → IsTrue (list_all may_be_share a) → IsTrue (list_all may_be_share b) → shares_then a None ≡ shares_then b None → a ≡ b
same_shares [] [] a_may b_may same = refl
same_shares [] (t ∷ b) a_may b_may same = absurd (cc same)
same_shares (s ∷ a) [] a_may b_may same = absurd (cc same)
same_shares (s ∷ a) (t ∷ b) a_may b_may same =
    let (s_may, a_more) = and_parts (may_be_share s) (list_all may_be_share a) a_may in
    let (t_may, b_more) = and_parts (may_be_share t) (list_all may_be_share b) b_may in
    let both = one_share s t (shares_then a None) (shares_then b None) s_may t_may (some_same _ _ same) in
    let more : a ≡ b = same_shares a b a_more b_more both.1 in
    λ i. both.0 i ∷ more i

-- a value's line has one reading
pub one_value : (a b : List Share) → IsTrue (is_value most_zones a) → IsTrue (is_value most_zones b) → shares_then a None ≡ shares_then b None → a ≡ b
one_value a b a_is b_is same = same_shares a b (value_may_be a a_is) (value_may_be b b_is) same

module _ (rest : List ℕ) (f : Format) where
  pub no_shares_in_marks : ((shares : List Share) → IsTrue (list_all may_be_share shares) → shares_then shares None ≢ Some rest) → (p : Part) → IsPartReadAs (codes "marks") rest f p → ⊥
  no_shares_in_marks never = only_marks rest f (λ shares read.
      never shares (value_may_be shares (value_within f shares read.within).1) read.following)

  pub no_value : (own : List Share) → IsTrue (list_all may_be_share own) → shares_then own None ≡ Some rest → is_value most_zones own ≡ false → (p : Part) → IsPartReadAs (codes "marks") rest f p → ⊥
  no_value own may splits other = only_marks rest f (λ shares read.
      let is = (value_within f shares read.within).1 in
      absurd (cc (sym other ∙ ap (is_value most_zones) (same_shares own shares may (value_may_be shares is) (splits ∙ sym read.following)) ∙ is)))

  pub marks_are_read : has_landmarks f.version ≡ true → (shares : List Share) → shares_then shares None ≡ Some rest → is_value most_zones shares ≡ true → length (with_rest (codes "marks") (Some rest)) ≤ longest_line
      → IsPartReadAs (codes "marks") rest f (landmark_line (value shares))
  marks_are_read has shares splits is short =
      let text : line_text (value shares) ≡ with_rest (codes "marks") (Some rest) = line_splits (part (landmark_line (value shares))) ∙ ap (with_rest (codes "marks")) splits in
      let fits : nat_le (length (line_text (value shares))) longest_line ≡ true = le-leb (length (line_text (value shares))) longest_line (subst (λ text. length text ≤ longest_line) (sym text) short) in
      record { head = refl; following = splits; within = (λ i. has i && is i && fits i) }
