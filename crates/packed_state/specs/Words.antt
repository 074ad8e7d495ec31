-- Sets as words of 64 bits: bit `k % 64` of word `k / 64`, counted from the lowest, is set if the number k is in.
use Rattle.std.specs.Prelude.{◌≡◌, ℕ, ◌+◌, ◌-◌, ◌*◌, ◌/◌, ◌%◌, ◌^◌, ◌<◌, ◌≤◌, ◌==◌, Bool, false, List, ◌++◌, length, map, slice_index}
use Rattle.std.specs.List.{filter, range_with_len}
use Rattle.std.specs.Int.{bit_at}

-- whether the number is in the set
unfoldable pub word_has : List ℕ → ℕ → Bool
word_has words number = bit_at (slice_index words (number / 64)) (number % 64) == 1

-- the set of the numbers below the width that the words hold
unfoldable pub bits_in : ℕ → List ℕ → List Bool
bits_in width words = map (word_has words) (range_with_len 0 width)

-- the numbers of one word in ascending order, whose lowest bit stands for `first`
unfoldable pub numbers_of_word : ℕ → ℕ → List ℕ
numbers_of_word first word = filter (λ number. bit_at word (number - first) == 1) (range_with_len first 64)

-- As many words as the width needs, without a number from the width on: each set has one such list.
pub record AreWordsOf (width : ℕ) (words : List ℕ) : Type 0 where
  pub enough : width ≤ 64 * length words
  pub no_more : 64 * length words < width + 64
  pub small : (place : ℕ) → slice_index words place < 2 ^ 64
  pub rest : (number : ℕ) → width ≤ number → word_has words number ≡ false

-- `before` is a prefix of `after`
abbrev pub BeginsWith : List ℕ → List ℕ → Type 0
BeginsWith before after = (more : List ℕ) × (after ≡ before ++ more)
