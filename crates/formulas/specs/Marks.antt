-- Sets of numbers, as tables of booleans.
use Rattle.std.specs.Prelude.{◌≡◌, ℕ, Bool, false, ◌||◌, List, get_or}
use Rattle.std.specs.List.{list_any}

-- the table contains the number; past its end there are none
abbrev pub is_marked : List Bool → ℕ → Bool
is_marked table number = get_or table number false

-- these numbers are added to the table
abbrev pub Marks : (ℕ → Bool) → List Bool → List Bool → Type 0
Marks comes old new = (number : ℕ) → is_marked new number ≡ (is_marked old number || comes number)

-- the table contains the numbers for which some element passes the test
abbrev pub IsTableOf : {X : Type 0} → (ℕ → X → Bool) → List X → List Bool → Type 0
IsTableOf test xs table = (n : ℕ) → is_marked table n ≡ list_any (test n) xs
