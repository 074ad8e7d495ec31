-- The numbers in sets, as rising lists.
use Rattle.std.proofs.Common.{◌≡◌, ℕ, zero, suc, ◌+◌, ◌-◌, ◌*◌, ◌%◌, ◌^◌, ◌<◌, ◌≤◌, Bool, true, false, List, [], ◌∷◌, ◌++◌, length, take, drop, get_or, refl, sym, ap, ◌∙◌, inl, inr, arith, w64}
use Rattle.std.specs.Prelude.{bit_and, ◌==◌}
use Rattle.std.specs.Int.{bit_at, bit_not, trailing_zeros}
use Rattle.std.specs.List.{filter, range_with_len}
use Rattle.std.proofs.lemmas.Bool.{cases_eq, cases_lt}
use Rattle.std.proofs.lemmas.List.{append-nil, append_assoc, length-append}
use Rattle.std.proofs.Math.Seq.{take-append_seam, drop-append_seam}
use Rattle.std.proofs.lemmas.List.Elements.{filter-append}
use Rattle.std.proofs.lemmas.Nat.{and_le_l}
use Rattle.std.proofs.lemmas.Nat.Bits.{bit_at-zero, bit_at-trailing_zeros, bit_at_clear_same, bit_at_clear_other}
use Rattle.packed_state.specs.Sets.{has}
use Rattle.packed_state.specs.Words.{word_has, bits_in, numbers_of_word, AreWordsOf, BeginsWith}
use Rattle.packed_state.proofs.WordLemmas.{in_word}
use Rattle.packed_state.proofs.PackedLemmas.{length-bits, bit_below}

-- ---- what a test keeps of a range

kept_alike : (p q : ℕ → Bool) (from count : ℕ) → ((k : ℕ) → from ≤ k → k < from + count → p k ≡ q k)
    → filter p (range_with_len from count) ≡ filter q (range_with_len from count)
kept_alike p q from zero each = refl
kept_alike p q from (suc count) each =
    let rest : filter p (range_with_len (from + 1) count) ≡ filter q (range_with_len (from + 1) count) =
    kept_alike p q (from + 1) count (λ k past below. each k (omega arith) (omega arith)) in
    simp (each from (omega arith) (omega arith), rest) refl

kept_none : (p : ℕ → Bool) (from count : ℕ) → ((k : ℕ) → from ≤ k → k < from + count → p k ≡ false) → filter p (range_with_len from count) ≡ []
kept_none p from zero none = refl
kept_none p from (suc count) none =
    simp (none from (omega arith) (omega arith)) (kept_none p (from + 1) count (λ k past below. none k (omega arith) (omega arith)))

-- of two tests that differ in the first number that passes
kept_but_first : (p q : ℕ → Bool) (first from count : ℕ) → from ≤ first → first < from + count → p first ≡ true → q first ≡ false
    → ((k : ℕ) → from ≤ k → k < first → p k ≡ false)
    → ((k : ℕ) → from ≤ k → k < from + count → (k ≡ first → ⊥) → q k ≡ p k)
    → filter p (range_with_len from count) ≡ first ∷ filter q (range_with_len from count)
kept_but_first p q first from zero past within is_in is_out none each = absurd (omega arith)
kept_but_first p q first from (suc count) past within is_in is_out none each =
    elim (cases_eq from first) [
      | inl here ↦
          let passes : p from ≡ true = ap p here ∙ is_in in
          let fails : q from ≡ false = ap q here ∙ is_out in
          let rest : filter p (range_with_len (from + 1) count) ≡ filter q (range_with_len (from + 1) count) =
          kept_alike p q (from + 1) count (λ k after below. sym (each k (omega arith) (omega arith) (λ is. absurd (omega arith)))) in
          simp (passes, fails, rest) (ap (λ n. n ∷ filter q (range_with_len (from + 1) count)) here)
      | inr before ↦
          let fails : p from ≡ false = none from (omega arith) (omega arith) in
          let fails' : q from ≡ false = each from (omega arith) (omega arith) before ∙ fails in
          simp (fails, fails')
          (kept_but_first p q first (from + 1) count (omega arith) (omega arith) is_in is_out
          (λ k after below. none k (omega arith) below) (λ k after below. each k (omega arith) (omega arith)))
    ]

range_split : (from count more past : ℕ) → from + count ≡ past → range_with_len from (count + more) ≡ range_with_len from count ++ range_with_len past more
range_split from zero more past is =
    let all : zero + more ≡ more = omega arith in
    let same : from ≡ past = omega (arith, is) in
    ap (range_with_len from) all ∙ ap (λ n. range_with_len n more) same
range_split from (suc count) more past is =
    let one_more : suc count + more ≡ suc (count + more) = omega arith in
    ap (range_with_len from) one_more ∙ ap (λ rest. from ∷ rest) (range_split (from + 1) count more past (omega (arith, is)))

kept_split : (p : ℕ → Bool) (count more : ℕ)
    → filter p (range_with_len 0 (count + more)) ≡ filter p (range_with_len 0 count) ++ filter p (range_with_len count more)
kept_split p count more =
    ap (filter p) (range_split 0 count more count (omega arith)) ∙ filter-append p (range_with_len 0 count) (range_with_len count more)

-- ---- one word

-- the word without its lowest number
abbrev pub without_lowest : ℕ → ℕ
without_lowest word = bit_and word (bit_not w64 (1 * 2 ^ trailing_zeros w64 word % 2 ^ 64))

pub none_of_word : (first : ℕ) → numbers_of_word first 0 ≡ []
unfolding numbers_of_word
none_of_word first = kept_none (λ k. bit_at 0 (k - first) == 1) first 64 (λ k past below. ap (λ bit. bit == 1) (bit_at-zero (k - first)))

pub lowest_of_word : (first word : ℕ) → 0 < word → word < 2 ^ 64
    → numbers_of_word first word ≡ (first + trailing_zeros w64 word) ∷ numbers_of_word first (without_lowest word)
unfolding numbers_of_word
lowest_of_word first word some small =
    let lowest : ℕ = trailing_zeros w64 word in
    let is = bit_at-trailing_zeros w64 word some small in
    let within : lowest < 64 = is.0 in
    let there : (first + lowest) - first ≡ lowest = omega arith in
    kept_but_first (λ k. bit_at word (k - first) == 1) (λ k. bit_at (without_lowest word) (k - first) == 1) (first + lowest) first 64
    (omega arith) (omega arith)
    (ap (λ i. bit_at word i == 1) there ∙ ap (λ bit. bit == 1) is.1)
    (ap (λ i. bit_at (without_lowest word) i == 1) there ∙ ap (λ bit. bit == 1) (bit_at_clear_same w64 word lowest within))
    (λ k past below. ap (λ bit. bit == 1) (is.2 (k - first) (omega arith)))
    (λ k past below other. ap (λ bit. bit == 1) (bit_at_clear_other w64 word lowest within (k - first) (omega arith) (λ same. other (omega arith))))

pub without_lowest_smaller : (word : ℕ) → 0 < word → word < 2 ^ 64 → without_lowest word < word
without_lowest_smaller word some small =
    let lowest : ℕ = trailing_zeros w64 word in
    let is = bit_at-trailing_zeros w64 word some small in
    let differs : without_lowest word ≡ word → ⊥ =
    λ same. absurd (let bits : ◌≡◌ {A = ℕ} 0 1 = sym (bit_at_clear_same w64 word lowest is.0) ∙ ap (λ w. bit_at w lowest) same ∙ is.1 in omega arith) in
    elim (cases_lt (without_lowest word) word) [
      | inl less ↦ less
      | inr not_less ↦ absurd (differs (omega (arith, and_le_l word (bit_not w64 (1 * 2 ^ lowest % 2 ^ 64)))))
    ]

-- ---- all words

pub one_word_more : (words : List ℕ) (place : ℕ)
    → filter (word_has words) (range_with_len 0 (64 * (place + 1))) ≡ filter (word_has words) (range_with_len 0 (64 * place)) ++ numbers_of_word (place * 64) (get_or words place 0)
unfolding numbers_of_word
one_word_more words place =
    let first : 64 * place ≡ place * 64 = omega arith in
    let reported : (k : ℕ) → place * 64 ≤ k → k < place * 64 + 64 → word_has words k ≡ (bit_at (get_or words place 0) (k - place * 64) == 1) =
    λ k past below. ap (word_has words) (omega arith) ∙ in_word words place (k - place * 64) (omega arith) in
    ap (λ count. filter (word_has words) (range_with_len 0 count)) (omega arith)
    ∙ kept_split (word_has words) (64 * place) 64
    ∙ ap (λ more. filter (word_has words) (range_with_len 0 (64 * place)) ++ more)
    (ap (λ from. filter (word_has words) (range_with_len from 64)) first
    ∙ kept_alike (word_has words) (λ k. bit_at (get_or words place 0) (k - place * 64) == 1) (place * 64) 64 reported)

pub numbers_in_words : (width : ℕ) (words : List ℕ) → AreWordsOf width words
    → filter (word_has words) (range_with_len 0 (64 * length words)) ≡ filter (has (bits_in width words)) (range_with_len 0 width)
numbers_in_words width words are =
    let rest : ℕ = 64 * length words - width in
    let none : filter (word_has words) (range_with_len width rest) ≡ [] = kept_none (word_has words) width rest (λ k past below. are.rest k past) in
    let same : filter (word_has words) (range_with_len 0 width) ≡ filter (has (bits_in width words)) (range_with_len 0 width) =
    kept_alike (word_has words) (has (bits_in width words)) 0 width (λ k past below. sym (bit_below width words k (omega arith))) in
    ap (λ count. filter (word_has words) (range_with_len 0 count)) (omega (arith, are.enough))
    ∙ kept_split (word_has words) width rest
    ∙ ap (λ more. filter (word_has words) (range_with_len 0 width) ++ more) none
    ∙ append-nil (filter (word_has words) (range_with_len 0 width))
    ∙ same

pub numbers_listed : (width : ℕ) (words read before after : List ℕ) → AreWordsOf width words → read ≡ words
    → after ≡ before ++ filter (word_has read) (range_with_len 0 (64 * length read))
    → after ≡ before ++ filter (has (bits_in width words)) (range_with_len 0 (length (bits_in width words)))
numbers_listed width words read before after are is added =
    added
    ∙ ap (λ items. before ++ filter (word_has items) (range_with_len 0 (64 * length items))) is
    ∙ ap (λ items. before ++ items) (numbers_in_words width words are)
    ∙ ap (λ count. before ++ filter (has (bits_in width words)) (range_with_len 0 count)) (sym (length-bits width words))

-- ---- what is added after a list

pub one_more : (before list after : List ℕ) (x : ℕ) → BeginsWith before list → after ≡ list ++ x ∷ [] → BeginsWith before after
one_more before list after x begins is =
    (begins.0 ++ x ∷ [], is ∙ ap (λ items. items ++ x ∷ []) begins.1 ∙ append_assoc before begins.0 (x ∷ []))

pub more_begin : (before list after : List ℕ) → BeginsWith before list → BeginsWith list after → BeginsWith before after
more_begin before list after begins more =
    (begins.0 ++ more.0, more.1 ∙ ap (λ items. items ++ more.0) begins.1 ∙ append_assoc before begins.0 more.0)

-- what was added is cut off again
pub cut_back : (n : ℕ) (before after left : List ℕ) → n ≡ length before → BeginsWith before after → left ≡ take n after → left ≡ before
cut_back n before after left many begins is =
    is ∙ ap (λ items. take n items) begins.1 ∙ ap (λ count. take count (before ++ begins.0)) many ∙ take-append_seam before begins.0

-- what was added is turned to the front, and the rest is cut off
pub turned : (n m : ℕ) (before more after rotated left : List ℕ) → n ≡ length before → m ≡ length rotated - n → after ≡ before ++ more
    → rotated ≡ drop n after ++ take n after → left ≡ take m rotated → left ≡ more
turned n m before more after rotated left many as_many is turns cut =
    let front : rotated ≡ more ++ before =
    turns ∙ (λ i. drop (many i) (is i) ++ take (many i) (is i))
    ∙ (λ i. drop-append_seam before more i ++ take-append_seam before more i) in
    let count : m ≡ length more = omega (arith, as_many, many, ap length front, length-append more before) in
    cut ∙ (λ i. take (count i) (front i)) ∙ take-append_seam more before
