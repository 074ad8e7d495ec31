-- The next number of a set, word by word.
use Rattle.std.proofs.Common.{◌≡◌, ◌∙◌, ℕ, ◌+◌, ◌-◌, ◌*◌, ◌/◌, ◌%◌, ◌^◌, ◌<◌, ◌≤◌, inl, inr, true, false, List, length, get_or, sym, ap, arith, w64}
use Rattle.std.specs.Prelude.{◌==◌}
use Rattle.std.specs.Int.{bit_at, trailing_zeros}
use Rattle.std.proofs.lemmas.Bool.{cases_lt}
use Rattle.std.proofs.lemmas.Nat.{shr-shr, shr_le}
use Rattle.std.proofs.lemmas.Nat.Bits.{bit_at-zero, bit_at_above, bit_at-trailing_zeros}
use Rattle.packed_state.specs.Sets.{IsNext}
use Rattle.packed_state.specs.Words.{word_has, bits_in, AreWordsOf}
use Rattle.packed_state.proofs.WordLemmas.{in_word}
use Rattle.packed_state.proofs.PackedLemmas.{length-bits, bit_of}

module _ (words : List ℕ) (number : ℕ) where
  abbrev word : ℕ
  word = get_or words (number / 64) 0

  abbrev rest : ℕ
  rest = word / 2 ^ (number % 64)

  shifted : (i : ℕ) → bit_at rest i ≡ bit_at word (number % 64 + i)
  shifted i = ap (λ n. n % 2) (shr-shr word (number % 64) i)

  -- a number of the same word is reported by what is left of it
  reported : (i : ℕ) → number % 64 + i < 64 → word_has words (number + i) ≡ (bit_at rest i == 1)
  reported i within =
      let same : number + i ≡ 64 * (number / 64) + (number % 64 + i) = omega arith in
      ap (word_has words) same ∙ in_word words (number / 64) (number % 64 + i) within ∙ ap (λ b. b == 1) (sym (shifted i))

  -- nothing is left of the word: the next number to look at is the first of the next word
  pub none_left : (from : ℕ) → rest ≡ 0 → ((k : ℕ) → from ≤ k → k < number → word_has words k ≡ false)
      → (k : ℕ) → from ≤ k → k < (number / 64 + 1) * 64 → word_has words k ≡ false
  none_left from empty before k above below = elim (cases_lt k number) [
    | inl earlier ↦ before k above earlier
    | inr later ↦
        let i = k - number in
        let same : k ≡ number + i = omega (arith, later) in
        ap (word_has words) same ∙ reported i (omega (arith, later, below)) ∙ ap (λ r. bit_at r i == 1) empty ∙ ap (λ b. b == 1) (bit_at-zero i)
  ]

  module _ (some : 0 < rest) (small : word < 2 ^ 64) where
    at : (trailing_zeros w64 rest < 64) × (bit_at rest (trailing_zeros w64 rest) ≡ 1) × ((i : ℕ) → i < trailing_zeros w64 rest → bit_at rest i ≡ 0)
    at = bit_at-trailing_zeros w64 rest some (omega (arith, small, shr_le word (number % 64)))

    same_word : number % 64 + trailing_zeros w64 rest < 64
    same_word = elim (cases_lt (number % 64 + trailing_zeros w64 rest) 64) [
      | inl within ↦ within
      | inr past ↦
          let one : bit_at rest (trailing_zeros w64 rest) ≡ 1 = at.1 in
          let none : bit_at rest (trailing_zeros w64 rest) ≡ 0 = shifted (trailing_zeros w64 rest) ∙ bit_at_above word 64 (number % 64 + trailing_zeros w64 rest) small past in
          absurd (omega (arith, one, none))
    ]

    -- else the lowest bit of what is left reports it
    pub found : word_has words (number + trailing_zeros w64 rest) ≡ true
    found = reported (trailing_zeros w64 rest) same_word ∙ ap (λ b. b == 1) at.1

    pub none_before : (from : ℕ) → ((k : ℕ) → from ≤ k → k < number → word_has words k ≡ false)
        → (k : ℕ) → from ≤ k → k < number + trailing_zeros w64 rest → word_has words k ≡ false
    none_before from before k above below = elim (cases_lt k number) [
      | inl earlier ↦ before k above earlier
      | inr later ↦
          let i = k - number in
          let same : k ≡ number + i = omega (arith, later) in
          ap (word_has words) same ∙ reported i (omega (arith, later, below, same_word)) ∙ ap (λ b. b == 1) (at.2 i (omega (arith, later, below)))
    ]

-- ---- the least number of a set that is not below another

module _ (width : ℕ) (words : List ℕ) (are : AreWordsOf width words) (from number : ℕ) (above : from ≤ number) (none : (k : ℕ) → from ≤ k → k < number → word_has words k ≡ false)
    (is_in : number < 64 * length words → word_has words number ≡ true) where
  pub next-within : number < width → IsNext (bits_in width words) from number
  next-within below = record {
    above = above;
    within = omega (arith, below, length-bits width words);
    none_between = λ k past before. bit_of width words are k ∙ none k past before;
    is_in = λ _. bit_of width words are number ∙ is_in (omega (arith, below, are.enough));
  }

  pub next-past : width ≤ number → from ≤ width → IsNext (bits_in width words) from width
  next-past past below = record {
    above = below;
    within = omega (arith, length-bits width words);
    none_between = λ k after before. bit_of width words are k ∙ none k after (omega (arith, before, past));
    is_in = λ within. absurd (omega (arith, within, length-bits width words));
  }
