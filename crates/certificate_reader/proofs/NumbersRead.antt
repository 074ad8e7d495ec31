-- Claims and lists of numbers, word by word.
use Rattle.std.proofs.Common.{◌≡◌, ◌≢◌, ℕ, ◌+◌, ◌<◌, ◌≤◌, true, false, List, [], ◌∷◌, ◌++◌, codes, map, length, length-append, Option, None, Some, refl, sym, ap, ◌∙◌, subst, append_assoc, append-nil, arith}
use Rattle.std.specs.Prelude.{◌&&◌, IsTrue, is_some, nat_le, nat_lt}
use Rattle.std.specs.Borrow.{Bor}
use Rattle.std.specs.Fmt.{decimal}
use Rattle.std.specs.List.{list_all}
use Rattle.std.specs.Str.{bytes_eq}
use Rattle.std.proofs.lemmas.Bool.{and_parts, leb-true, le-leb, ltb-true, lt-ltb}
use Rattle.std.proofs.lemmas.Fmt.{decimal_injective}
use Rattle.std.proofs.lemmas.List.{map-append}
use Rattle.std.proofs.lemmas.Slice.Eq.{bytes_eq-Decides}
use Rattle.model.specs.Claims.{Claim, bound, none}
use Rattle.certificate_definitions.specs.Certificates.{Version, one, two, three, four, is_number, rise}
use Rattle.certificate_definitions.specs.CertificateText.{most_atoms, version_number}
use Rattle.certificate_reader.specs.Words.{AreLeading, IsFirstWord, claim_rest, is_word, numbers_then, text_in, then_numbers, then_words, with_rest}
use Rattle.certificate_reader.proofs.NumberLemmas.{is_below}
use Rattle.certificate_reader.proofs.WordLemmas.{one_first}
use Rattle.certificate_reader.proofs.LineLemmas.{all_words, number_is_word, then_words_more}

-- ---- a claim

-- a claim of two words begins with `bound`
pub not_bound : (rest word : List ℕ) (following : Option (Bor (List ℕ))) (least : Bor (List ℕ)) → IsFirstWord rest word (text_in following) → following ≡ Some least
    → bytes_eq word (codes "bound") ≡ false → (claim : Claim) → claim_rest claim ≡ rest → ⊥
not_bound rest word following least first is unlike (bound n) same =
    let both = one_first word (codes "bound") (text_in following) (Some (decimal n)) first.is_word refl (sym first.splits ∙ sym same) in
    absurd (cc (sym unlike ∙ (bytes_eq-Decides word (codes "bound")).1 both.0))
not_bound rest word following least first is unlike none same =
    let both = one_first word (codes "none") (text_in following) None first.is_word refl (sym first.splits ∙ sym same) in
    absurd (cc (ap text_in is, both.1))

-- ---- numbers

pub same_number : (m n : ℕ) → IsTrue (is_number m) → IsTrue (is_number n) → decimal m ≡ decimal n → m ≡ n
same_number m n m_is n_is same =
    let m_below = is_below m m_is in
    let n_below = is_below n n_is in
    decimal_injective m n (omega (arith, m_below)) (omega (arith, n_below)) same

pub version_is_number : (v : Version) → IsTrue (is_number (version_number v))
version_is_number one = refl
version_is_number two = refl
version_is_number three = refl
version_is_number four = refl

pub few_are_numbers : (count n : ℕ) → count ≤ 2147483648 → n < count → IsTrue (is_number n)
few_are_numbers count n few below = lt-ltb n 1152921504606846976 (omega (arith, few, below))

pub rise_parts : (count least n : ℕ) (more : List ℕ) → rise count least (n ∷ more) ≡ true → (least ≤ n) × (n < count) × (rise count (n + 1) more ≡ true)
rise_parts count least n more all =
    let parts = and_parts (nat_le least n && nat_lt n count) (rise count (n + 1) more) all in
    let here = and_parts (nat_le least n) (nat_lt n count) parts.0 in
    (leb-true least n here.0, ltb-true n count here.1, parts.1)

pub rising_are_numbers : (count least : ℕ) (numbers : List ℕ) → count ≤ most_atoms → rise count least numbers ≡ true → IsTrue (list_all is_number numbers)
rising_are_numbers count least [] few all = refl
rising_are_numbers count least (n ∷ numbers) few all =
    let (above, below, more) = rise_parts count least n numbers all in
    ap (λ b. b && list_all is_number numbers) (few_are_numbers count n (omega (arith, few)) below) ∙ rising_are_numbers count (n + 1) numbers few more

some_same : (a b : List ℕ) → ◌≡◌ {A = Option (List ℕ)} (Some a) (Some b) → a ≡ b
some_same a b same = cc

pub numbers_are_words : (numbers : List ℕ) → IsTrue (list_all is_number numbers) → IsTrue (list_all is_word (map decimal numbers))
numbers_are_words [] all = refl
numbers_are_words (n ∷ numbers) all =
    let (here, more) = and_parts (is_number n) (list_all is_number numbers) all in
    ap (λ b. b && list_all is_word (map decimal numbers)) (number_is_word n here) ∙ numbers_are_words numbers more

first_same : (a b : List ℕ) (xs ys : List (List ℕ)) → a ∷ xs ≡ b ∷ ys → a ≡ b
first_same a b xs ys same = cc

more_same : (a b : List ℕ) (xs ys : List (List ℕ)) → a ∷ xs ≡ b ∷ ys → xs ≡ ys
more_same a b xs ys same = cc

pub same_numbers : (a b : List ℕ) → IsTrue (list_all is_number a) → IsTrue (list_all is_number b) → map decimal a ≡ map decimal b → a ≡ b
same_numbers [] [] a_are b_are same = refl
same_numbers [] (n ∷ b) a_are b_are same = absurd (cc same)
same_numbers (m ∷ a) [] a_are b_are same = absurd (cc same)
same_numbers (m ∷ a) (n ∷ b) a_are b_are same =
    let (m_is, a_more) = and_parts (is_number m) (list_all is_number a) a_are in
    let (n_is, b_more) = and_parts (is_number n) (list_all is_number b) b_are in
    let here : m ≡ n = same_number m n m_is n_is (first_same (decimal m) (decimal n) (map decimal a) (map decimal b) same) in
    let rest : a ≡ b = same_numbers a b a_more b_more (more_same (decimal m) (decimal n) (map decimal a) (map decimal b) same) in
    λ i. here i ∷ rest i

-- rising numbers have only one text
pub one_then_numbers : (count : ℕ) → count ≤ most_atoms → (a b : List ℕ) → IsTrue (rise count 0 a) → IsTrue (rise count 0 b) → then_numbers a ≡ then_numbers b → a ≡ b
one_then_numbers count few a b a_rise b_rise same =
    let a_are = rising_are_numbers count 0 a few a_rise in
    let b_are = rising_are_numbers count 0 b few b_rise in
    same_numbers a b a_are b_are (all_words (map decimal a) (map decimal b) (numbers_are_words a a_are) (numbers_are_words b b_are) same)

-- the length of the rest, which decreases with each word
abbrev pub bytes_left : Option (List ℕ) → ℕ
bytes_left None = 0
bytes_left (Some bytes) = 1 + length bytes

pub fewer_left : (bytes word : List ℕ) (following : Option (List ℕ)) → IsFirstWord bytes word following → bytes_left following < bytes_left (Some bytes)
fewer_left bytes word None first =
    let nothing : bytes_left None ≡ 0 = refl in
    let whole : bytes_left (Some bytes) ≡ 1 + length bytes = refl in
    omega (arith, nothing, whole)
fewer_left bytes word (Some rest) first =
    let following : bytes_left (Some rest) ≡ 1 + length rest = refl in
    let whole : bytes_left (Some bytes) ≡ 1 + length bytes = refl in
    let blank : length (codes " ") ≡ 1 = refl in
    omega (arith, following, whole, blank, ap length first.splits, length-append (word ++ codes " ") rest, length-append word (codes " "))

-- ---- the numbers at the beginning of words

-- Words begin with rising numbers in only one way, if no other one follows.
same_leading : (count least : ℕ) → count ≤ most_atoms → (a b : List ℕ) (r s : Option (List ℕ)) → rise count least a ≡ true → rise count least b ≡ true
    → ((n : ℕ) (rest : Option (List ℕ)) → rise count least (a ++ n ∷ []) ≡ true → r ≢ Some (with_rest (decimal n) rest))
    → ((n : ℕ) (rest : Option (List ℕ)) → IsTrue (is_number n) → s ≢ Some (with_rest (decimal n) rest))
    → numbers_then a r ≡ numbers_then b s → (a ≡ b) × (r ≡ s)
same_leading count least few [] [] r s a_rise b_rise stops others same = (refl, same)
same_leading count least few [] (n ∷ b) r s a_rise b_rise stops others same =
    let (above, below, more) = rise_parts count least n b b_rise in
    absurd (stops n (numbers_then b s) (λ i. le-leb least n above i && lt-ltb n count below i && true) same)
same_leading count least few (m ∷ a) [] r s a_rise b_rise stops others same =
    let (above, below, more) = rise_parts count least m a a_rise in
    absurd (others m (numbers_then a r) (few_are_numbers count m (omega (arith, few)) below) (sym same))
same_leading count least few (m ∷ a) (n ∷ b) r s a_rise b_rise stops others same =
    let (m_above, m_below, a_more) = rise_parts count least m a a_rise in
    let (n_above, n_below, b_more) = rise_parts count least n b b_rise in
    let m_is = few_are_numbers count m (omega (arith, few)) m_below in
    let n_is = few_are_numbers count n (omega (arith, few)) n_below in
    let both = one_first (decimal m) (decimal n) (numbers_then a r) (numbers_then b s) (number_is_word m m_is) (number_is_word n n_is)
    (some_same (with_rest (decimal m) (numbers_then a r)) (with_rest (decimal n) (numbers_then b s)) same) in
    let here : m ≡ n = same_number m n m_is n_is both.0 in
    let (more, rests) = same_leading count (m + 1) few a b r s a_more (subst (λ m. rise count (m + 1) b ≡ true) (sym here) b_more)
    (λ k rest rising. stops k rest (λ i. le-leb least m m_above i && lt-ltb m count m_below i && rising i)) others both.1 in
    ((λ i. here i ∷ more i), rests)

pub one_leading_numbers : (words : Option (List ℕ)) (count : ℕ) → count ≤ most_atoms → (a b : List ℕ) (r s : Option (List ℕ)) → AreLeading words count a r → IsTrue (rise count 0 b)
    → ((n : ℕ) (rest : Option (List ℕ)) → IsTrue (is_number n) → s ≢ Some (with_rest (decimal n) rest)) → numbers_then b s ≡ words → (a ≡ b) × (r ≡ s)
one_leading_numbers words count few a b r s are rising others splits = same_leading count 0 few a b r s are.rising rising are.stops others (are.splits ∙ sym splits)

-- if something follows them, the words are not just numbers
pub no_numbers : (words : Option (List ℕ)) (count : ℕ) → count ≤ most_atoms → (a : List ℕ) (r : Option (List ℕ)) → AreLeading words count a r → is_some r ≡ true
    → (numbers : List ℕ) → IsTrue (rise count 0 numbers) → then_words (map decimal numbers) None ≢ words
no_numbers words count few a r are more numbers rising splits =
    absurd (cc (ap is_some (one_leading_numbers words count few a numbers r None are rising (λ n rest is same. absurd (cc same)) splits).1, more))

module _ (count : ℕ) (few : count ≤ most_atoms) (start : Option (List ℕ)) (done : List ℕ) (least : ℕ)
    (rises : (more : List ℕ) → rise count 0 (done ++ more) ≡ rise count least more) where
  pub done_rise : rise count 0 done ≡ true
  done_rise = ap (rise count 0) (sym (append-nil done)) ∙ rises []

  module _ (bytes word : List ℕ) (following : Option (List ℕ)) (first : IsFirstWord bytes word following) where
    -- the next word is not a number that may follow
    pub stops_here : ((n : ℕ) → least ≤ n → n < count → decimal n ≢ word) → (n : ℕ) (rest : Option (List ℕ)) → IsTrue (rise count 0 (done ++ n ∷ []))
        → ◌≡◌ {A = Option (List ℕ)} (Some bytes) (Some (with_rest (decimal n) rest)) → ⊥
    stops_here never n rest rising same =
        let (above, below, more) = rise_parts count least n [] (sym (rises (n ∷ [])) ∙ rising) in
        let both = one_first word (decimal n) following rest first.is_word (number_is_word n (few_are_numbers count n (omega (arith, few)) below))
        (sym first.splits ∙ some_same bytes (with_rest (decimal n) rest) same) in
        never n above below (sym both.0)

    module _ (read : then_words (map decimal done) (Some bytes) ≡ start) (n : ℕ) (is : decimal n ≡ word) (above : least ≤ n) (below : n < count) where
      pub one_more_read : then_words (map decimal (done ++ n ∷ [])) following ≡ start
      one_more_read =
          ap (λ words. then_words words following) (map-append decimal done (n ∷ []))
          ∙ sym (then_words_more (map decimal done) (decimal n) following)
          ∙ ap (λ word. then_words (map decimal done) (Some (with_rest word following))) is
          ∙ ap (λ bytes. then_words (map decimal done) (Some bytes)) (sym first.splits)
          ∙ read

      pub one_more_rises : (more : List ℕ) → rise count 0 ((done ++ n ∷ []) ++ more) ≡ rise count (n + 1) more
      one_more_rises more =
          ap (rise count 0) (append_assoc done (n ∷ []) more)
          ∙ rises (n ∷ more)
          ∙ (λ i. le-leb least n above i && lt-ltb n count below i && rise count (n + 1) more)
