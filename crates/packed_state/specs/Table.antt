-- A hash table with open addressing, of numbers below 2^24 by keys of 32 bits. The entry of a free slot is 0.
use Rattle.std.specs.Prelude.{◌≡◌, ℕ, zero, suc, ◌+◌, ◌-◌, ◌*◌, ◌/◌, ◌%◌, ◌^◌, ◌<◌, ◌≤◌, ltb, cond, List, [], ◌∷◌, length, bit_and, slice_index}

-- the slot `step` places behind the one that the key names, round at the end
unfoldable pub slot_at : ℕ → ℕ → ℕ → ℕ
slot_at slots key step = let slot = bit_and key (slots - 1) + step in cond (ltb slot slots) slot (slot - slots)

-- the seven highest bits of a key
unfoldable pub tag_of : ℕ → ℕ
tag_of key = key / 2 ^ 25

unfoldable pub entry_of : ℕ → ℕ → ℕ
entry_of key number = tag_of key * 2 ^ 24 + number + 1

unfoldable pub number_of : ℕ → ℕ
number_of entry = (entry - 1) % 2 ^ 24

unfoldable pub tag_in : ℕ → ℕ
tag_in entry = (entry - 1) / 2 ^ 24

-- the number of free slots
unfoldable pub free_in : List ℕ → ℕ
free_in [] = 0
free_in (zero ∷ entries) = suc (free_in entries)
free_in (suc entry ∷ entries) = free_in entries

-- the first free slot for the key
pub record IsFirstFree (entries : List ℕ) (key slot : ℕ) : Type 0 where
  pub step : ℕ
  pub within : step < length entries
  pub is : slot ≡ slot_at (length entries) key step
  pub free : slice_index entries slot ≡ 0
  pub taken : (earlier : ℕ) → earlier < step → slice_index entries (slot_at (length entries) key earlier) ≡ 0 → ⊥

-- a probe for the key meets the entry before any free slot
abbrev pub IsMet : ℕ → ℕ → ℕ → List ℕ → Type 0
IsMet slots key entry entries =
    (step : ℕ) → step < slots → slice_index entries (slot_at slots key step) ≡ 0
    → ((earlier : ℕ) → earlier < step → slice_index entries (slot_at slots key earlier) ≡ entry → ⊥) → ⊥

-- a table of the numbers below a count, by their keys
pub record IsTable (key : ℕ → ℕ) (count : ℕ) (entries : List ℕ) : Type 0 where
  pub few : length entries ≤ 67108864
  pub room : count < length entries
  pub free : free_in entries + count ≡ length entries
  pub within : (slot : ℕ) → (slice_index entries slot ≡ 0 → ⊥) → number_of (slice_index entries slot) < count
  pub met : (n : ℕ) → n < count → IsMet (length entries) (key n) (entry_of (key n) n) entries
