-- Sets of numbers below a width: a Bool for each number, whether it is in.
use Rattle.std.specs.Prelude.{◌≡◌, ℕ, ◌<◌, ◌≤◌, ◌==◌, Bool, true, false, not, ◌&&◌, ◌||◌, IsTrue, List, length, map, slice_index_or}
use Rattle.std.specs.List.{range_with_len, list_any}

-- whether the number is in the set; none is from the width on
abbrev pub has : List Bool → ℕ → Bool
has set number = slice_index_or set number false

-- `number` is the least member that is at least `from`, or the width if there is none
pub record IsNext (set : List Bool) (from number : ℕ) : Type 0 where
  pub above : from ≤ number
  pub within : number ≤ length set
  pub none_between : (k : ℕ) → from ≤ k → k < number → has set k ≡ false
  pub is_in : number < length set → has set number ≡ true

-- the set of these numbers
abbrev pub set_of : ℕ → List ℕ → List Bool
set_of width numbers = map (λ number. list_any (λ n. n == number) numbers) (range_with_len 0 width)

-- `part` is a subset of `set`
abbrev pub Includes : List Bool → List Bool → Type 0
Includes set part = (number : ℕ) → IsTrue (has part number) → IsTrue (has set number)

-- the sets are disjoint
abbrev pub AreDisjoint : List Bool → List Bool → Type 0
AreDisjoint set other = (number : ℕ) → ¬ (IsTrue (has set number) × IsTrue (has other number))

-- the set without the deletes, and then with the adds: an add wins over a delete of the same number
abbrev pub changed : List Bool → List Bool → List Bool → List Bool
changed set deletes adds = map (λ number. (has set number && not (has deletes number)) || has adds number) (range_with_len 0 (length set))

-- the same set under another width
abbrev pub at_width : ℕ → List Bool → List Bool
at_width width set = map (has set) (range_with_len 0 width)
