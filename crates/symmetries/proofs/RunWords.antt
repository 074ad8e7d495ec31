-- What the words of a state say of the pairs of a run.
use Rattle.std.proofs.Common.{◌≡◌, ◌∙◌, ℕ, zero, suc, ◌+◌, ◌-◌, ◌*◌, ◌/◌, ◌%◌, ◌^◌, ◌<◌, ◌≤◌, ◌⊎◌, inl, inr, Bool, true, false, not, ◌&&◌, List, length, get_or, refl, sym, ap, arith, w64}
use Rattle.std.specs.Prelude.{◌==◌, min, bit_and, bit_xor, nat_lt}
use Rattle.std.specs.Bool.{beq}
use Rattle.std.specs.Int.{bit_at, trailing_zeros}
use Rattle.std.proofs.lemmas.Bool.{cases_eq, cases_lt, and_parts, ltb-true, true≢false}
use Rattle.std.proofs.lemmas.Nat.{shr-shr, shr_le}
use Rattle.std.proofs.lemmas.Nat.Bits.{bit_at_and, bit_at_xor, bit_at-lt, bit_at_above, bit_at-zero, bit_at-trailing_zeros}
use Rattle.packed_state.specs.Sets.{has}
use Rattle.packed_state.specs.Words.{word_has, bits_in, AreWordsOf}
use Rattle.packed_state.proofs.WordLemmas.{in_word}
use Rattle.packed_state.proofs.PackedLemmas.{bit_of}
use Rattle.symmetries.specs.SwappedPlaces.{are_within, is_within}
use Rattle.symmetries.specs.declared.run.Run.{Run}
use Rattle.symmetries.specs.Runs.{pair_at, has_at, pairs_from, differs_at, IsBelow}
use Rattle.symmetries.proofs.RunPairs.{taken, left}

-- ---- one bit of the words compared

test : (a b m : ℕ) → a < 2 → b < 2 → m < 2 → (min ((a + b) % 2) m == 1) ≡ ((m == 1) && not (beq (a == 1) (b == 1)))
test zero zero zero p q r = refl
test zero zero (suc zero) p q r = refl
test zero (suc zero) zero p q r = refl
test zero (suc zero) (suc zero) p q r = refl
test (suc zero) zero zero p q r = refl
test (suc zero) zero (suc zero) p q r = refl
test (suc zero) (suc zero) zero p q r = refl
test (suc zero) (suc zero) (suc zero) p q r = refl
test (suc (suc a)) b m p q r = absurd (omega arith)
test a (suc (suc b)) m p q r = absurd (omega arith)
test a b (suc (suc m)) p q r = absurd (omega arith)

inside : (mask room place : ℕ) → mask < 2 ^ room → (bit_at mask place == 1) ≡ true → place < room
inside mask room place small is = elim (cases_lt place room) [
  | inl within ↦ within
  | inr past ↦ absurd (true≢false (sym is ∙ ap (λ b. b == 1) (bit_at_above mask room place small past)))
]

bit_shifted : (words : List ℕ) (number place : ℕ) → place < 64 - number % 64 → (bit_at (get_or words (number / 64) 0 / 2 ^ (number % 64)) place == 1) ≡ word_has words (number + place)
bit_shifted words number place within =
    let same : number + place ≡ 64 * (number / 64) + (number % 64 + place) = omega arith in
    ap (λ n. n % 2 == 1) (shr-shr (get_or words (number / 64) 0) (number % 64) place)
    ∙ sym (ap (word_has words) same ∙ in_word words (number / 64) (number % 64 + place) (omega (arith, within)))

module _ (run : Run) (bits : List Bool) (words : List ℕ) (are : AreWordsOf (length bits) words) (hold : bits_in (length bits) words ≡ bits) where
  abbrev lower_word : ℕ
  lower_word = get_or words (run.lower / 64) 0 / 2 ^ (run.lower % 64)

  abbrev upper_word : ℕ
  upper_word = get_or words (run.upper / 64) 0 / 2 ^ (run.upper % 64)

  bit : (number : ℕ) → word_has words number ≡ has bits number
  bit number = sym (ap (λ b. has b number) (sym hold) ∙ bit_of (length bits) words are number)

  module _ (place : ℕ) where
    by_test : (b : Bool) → has_at run place ≡ b → (has_at run place && not (beq (bit_at lower_word place == 1) (bit_at upper_word place == 1))) ≡ differs_at run bits place
    by_test true is =
        let low = bit_shifted words run.lower place (inside run.mask (64 - run.lower % 64) place run.lower_inside is) ∙ bit (run.lower + place) in
        let up = bit_shifted words run.upper place (inside run.mask (64 - run.upper % 64) place run.upper_inside is) ∙ bit (run.upper + place) in
        λ i. has_at run place && not (beq (low i) (up i))
    by_test false is =
        ap (λ b. b && not (beq (bit_at lower_word place == 1) (bit_at upper_word place == 1))) is
        ∙ sym (ap (λ b. b && not (beq (has bits (run.lower + place)) (has bits (run.upper + place)))) is)

    pub differing_at : (bit_at (bit_and (bit_xor lower_word upper_word) run.mask) place == 1) ≡ differs_at run bits place
    differing_at =
        ap (λ b. b == 1) (bit_at_and (bit_xor lower_word upper_word) run.mask place ∙ ap (λ b. min b (bit_at run.mask place)) (bit_at_xor lower_word upper_word place))
        ∙ test (bit_at lower_word place) (bit_at upper_word place) (bit_at run.mask place) (bit_at-lt lower_word place) (bit_at-lt upper_word place) (bit_at-lt run.mask place)
        ∙ by_test (has_at run place) refl

-- ---- the numbers of its pairs

module _ (run : Run) (width : ℕ) where
  within_at : (n k place : ℕ) → k ≤ place → place < k + n → has_at run place ≡ true → are_within width (pairs_from run k n) ≡ true → is_within width (pair_at run place) ≡ true
  within_at zero k place above below is all = absurd (omega (arith, above, below))
  within_at (suc n) k place above below is all = by_test (cases_eq k place) (has_at run k) refl (within_at n (k + 1) place)
    where
      by_test : (k ≡ place) ⊎ (k ≡ place → ⊥) → (b : Bool) → has_at run k ≡ b
          → (k + 1 ≤ place → place < (k + 1) + n → has_at run place ≡ true → are_within width (pairs_from run (k + 1) n) ≡ true → is_within width (pair_at run place) ≡ true)
          → is_within width (pair_at run place) ≡ true
      by_test (inl same) b here later =
          ap (λ i. is_within width (pair_at run i)) (sym same)
          ∙ (and_parts (is_within width (pair_at run k)) (are_within width (pairs_from run (k + 1) n)) (ap (are_within width) (sym (taken run k n (ap (has_at run) same ∙ is))) ∙ all)).0
      by_test (inr other) true here later =
          later (omega (arith, above, other)) (omega (arith, below)) is
          (and_parts (is_within width (pair_at run k)) (are_within width (pairs_from run (k + 1) n)) (ap (are_within width) (sym (taken run k n here)) ∙ all)).1
      by_test (inr other) false here later =
          later (omega (arith, above, other)) (omega (arith, below)) is (ap (are_within width) (sym (left run k n here)) ∙ all)

  pub below_at : (place : ℕ) → has_at run place ≡ true → IsBelow width run → (run.lower + place < width) × (run.upper + place < width)
  below_at place is all =
      let few = inside run.mask (64 - run.lower % 64) place run.lower_inside is in
      let both = and_parts (nat_lt (run.lower + place) width) (nat_lt (run.upper + place) width) (within_at 64 0 place (omega arith) (omega (arith, few)) is all) in
      (ltb-true (run.lower + place) width both.0, ltb-true (run.upper + place) width both.1)

  -- of the first pair
  pub first_below : IsBelow width run → (run.lower < width) × (run.upper < width)
  first_below all =
      let at = below_at 0 (ap (λ b. b == 1) run.first) all in
      let low = at.0 in
      let up = at.1 in
      (omega (arith, low), omega (arith, up))

-- the numbers of a state's width have their words
pub word_inside : (width number : ℕ) (words : List ℕ) → AreWordsOf width words → number < width → number / 64 < length words
word_inside width number words are below = let enough = are.enough in omega (arith, below, enough)

-- ---- the first pair that differs, by a word of those that do

module _ (run : Run) (bits : List Bool) (word : ℕ) (says : (place : ℕ) → (bit_at word place == 1) ≡ differs_at run bits place) where
  pub word_empty : word ≡ 0 → (place : ℕ) → differs_at run bits place ≡ false
  word_empty empty place = sym (says place) ∙ ap (λ w. bit_at w place == 1) empty ∙ ap (λ b. b == 1) (bit_at-zero place)

  pub word_first : word < 2 ^ 64 → (word ≡ 0 → ⊥)
      → (trailing_zeros w64 word < 64) × (differs_at run bits (trailing_zeros w64 word) ≡ true) × ((i : ℕ) → i < trailing_zeros w64 word → differs_at run bits i ≡ false)
  word_first small some =
      let at = bit_at-trailing_zeros w64 word (omega (arith, some)) small in
      (at.0, sym (says (trailing_zeros w64 word)) ∙ ap (λ b. b == 1) at.1, λ i less. sym (says i) ∙ ap (λ b. b == 1) (at.2 i less))

-- from a place on
module _ (run : Run) (bits : List Bool) (word : ℕ) (says : (place : ℕ) → (bit_at word place == 1) ≡ differs_at run bits place) (from : ℕ) where
  abbrev rest : ℕ
  rest = word / 2 ^ from

  at_later : (i : ℕ) → (bit_at rest i == 1) ≡ differs_at run bits (from + i)
  at_later i = ap (λ n. n % 2 == 1) (shr-shr word from i) ∙ says (from + i)

  -- none, from a place on
  pub no_difference : rest ≡ 0 → (place : ℕ) → from ≤ place → differs_at run bits place ≡ false
  no_difference empty place further =
      let same : from + (place - from) ≡ place = omega (arith, further) in
      ap (differs_at run bits) (sym same) ∙ sym (at_later (place - from)) ∙ ap (λ w. bit_at w (place - from) == 1) empty ∙ ap (λ b. b == 1) (bit_at-zero (place - from))

  pub record IsFirst (place : ℕ) : Type 0 where
    pub above : from ≤ place
    pub below : place < 64
    pub differs : differs_at run bits place ≡ true
    pub before : (i : ℕ) → from ≤ i → i < place → differs_at run bits i ≡ false

  pub first_difference : word < 2 ^ 64 → (rest ≡ 0 → ⊥) → IsFirst (from + trailing_zeros w64 rest)
  first_difference small some =
      let at = bit_at-trailing_zeros w64 rest (omega (arith, some)) (omega (arith, small, shr_le word from)) in
      let differs : differs_at run bits (from + trailing_zeros w64 rest) ≡ true = sym (at_later (trailing_zeros w64 rest)) ∙ ap (λ b. b == 1) at.1 in
      record {
        above = omega arith;
        below = inside word 64 (from + trailing_zeros w64 rest) small (says (from + trailing_zeros w64 rest) ∙ differs);
        differs = differs;
        before = λ i further less.
            let same : from + (i - from) ≡ i = omega (arith, further) in
            ap (differs_at run bits) (sym same) ∙ sym (at_later (i - from)) ∙ ap (λ b. b == 1) (at.2 (i - from) (omega (arith, further, less)));
      }
