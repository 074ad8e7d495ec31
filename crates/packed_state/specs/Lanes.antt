-- Relations between the words of two sets, pair by pair.
use Rattle.std.specs.Prelude.{◌≡◌, ℕ, ◌<◌, List, length, slice_index, bit_and, bit_or}
use Rattle.std.specs.Int.{bit_not}
use mir.Syntax.{w64}

-- the first word has each bit of the other one
abbrev pub includes : ℕ → ℕ → Type 0
includes word other = bit_and other (bit_not w64 word) ≡ 0

-- the words have no bit in common
abbrev pub is_apart : ℕ → ℕ → Type 0
is_apart word other = bit_and word other ≡ 0

abbrev pub is_same : ℕ → ℕ → Type 0
is_same word other = word ≡ other

-- the relation holds of each pair of words
abbrev pub Pairwise : (ℕ → ℕ → Type 0) → List ℕ → List ℕ → Type 0
Pairwise holds words others = (place : ℕ) → place < length others → holds (slice_index words place) (slice_index others place)

-- each word is the old one, with the deletes cleared and then the adds set
abbrev pub IsChanged : List ℕ → List ℕ → List ℕ → List ℕ → Type 0
IsChanged old deletes adds new =
    (place : ℕ) → place < length old → slice_index new place ≡ bit_or (bit_and (slice_index old place) (bit_not w64 (slice_index deletes place))) (slice_index adds place)
