-- The words of states in one list, their keys, and the table of their places.
use Rattle.std.specs.Prelude.{◌≡◌, ℕ, ◌*◌, ◌/◌, ◌%◌, ◌^◌, ◌<◌, ◌≤◌, List, length, map, take, drop, fold, bit_xor, slice_index}
use Rattle.std.specs.List.{range_with_len}
use Rattle.packed_state.specs.Table.{IsTable}

-- the words of the state at a place, of `stride` words each
unfoldable pub row_at : ℕ → List ℕ → ℕ → List ℕ
row_at stride words place = take stride (drop (place * stride) words)

-- the words of the first states
unfoldable pub rows_in : ℕ → List ℕ → ℕ → List (List ℕ)
rows_in stride words count = map (row_at stride words) (range_with_len 0 count)

-- mixes a word into a hash
abbrev pub mixed : ℕ → ℕ → ℕ
mixed hash word = let product = bit_xor hash word * 11400714819323198485 % 2 ^ 64 in bit_xor product (product / 2 ^ 32)

-- the key of some words; no contract above depends on its value
unfoldable pub key_of : List ℕ → ℕ
key_of words = mixed (fold mixed 0 words) 0 / 2 ^ 32 % 2 ^ 32

-- the words, the keys and the table are of the same states
pub record AreLinked (stride : ℕ) (words : List ℕ) (count : ℕ) (entries keys : List ℕ) : Type 0 where
  pub few : count ≤ 16777216
  pub long : length words ≡ count * stride
  pub counted : length keys ≡ count
  pub keyed : (n : ℕ) → n < count → slice_index keys n ≡ key_of (row_at stride words n)
  pub table : IsTable (λ n. key_of (row_at stride words n)) count entries
