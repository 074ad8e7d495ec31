-- The code's lowest numbers of a set.
use Rattle.std.specs.Prelude.{◌≡◌, ℕ, ◌<◌, ◌≤◌, Bool, true, ◌||◌, not, nat_lt, List, take, slice_get, slice_index, Some}
use Rattle.std.specs.Option.{option_map_or}
use Rattle.symmetries.specs.declared.lowest.Lowest.{Lowest}
use Rattle.symmetries.specs.Apart.{is_in, is_among, pairs_at, AreAllBelow}

-- the number is among them, or so high that it need not be
abbrev pub may_move : Lowest → ℕ → Bool
may_move lowest number = not (nat_lt number lowest.from) || is_among lowest.numbers.items number

abbrev pub may_move_at : List Lowest → ℕ → ℕ → Bool
may_move_at all place number = option_map_or (λ lowest. may_move lowest number) (slice_get all place) true

-- at the number of each atom the exchanges that move it are noted, of the first `count` exchanges
abbrev pub AreNoted : List (List (ℕ × ℕ)) → ℕ → List Lowest → Type 0
AreNoted swaps count noted =
    (swap atom : ℕ) → swap < count → is_in (pairs_at swaps swap) atom ≡ true → may_move_at noted atom swap ≡ true

-- all numbers below the bound that are noted at an atom of the pairs are listed
abbrev pub AreListed : List Lowest → List (ℕ × ℕ) → List ℕ → ℕ → Type 0
AreListed noted pairs listed bound =
    (atom number : ℕ) → is_in pairs atom ≡ true → may_move_at noted atom number ≡ true → number < bound → is_among listed number ≡ true

-- The listed numbers are the lowest: before each stand all lower ones, and all below the bound are listed. The bound is at most this number.
pub record AreLowest (noted : List Lowest) (pairs : List (ℕ × ℕ)) (number : ℕ) (listed : List ℕ) (bound : ℕ) : Type 0 where
  pub low : (place : ℕ) → slice_index listed place ≤ number
  pub rising : (place : ℕ) → AreListed noted pairs (take place listed) (slice_index listed place)
  pub most : bound ≤ number
  pub all : AreListed noted pairs listed bound

-- Of the exchanges that share an atom with the one of this number: before each that is kept stand all that are below it, and all are
-- kept that are below the bound.
abbrev pub AreNeighbours : List (List (ℕ × ℕ)) → ℕ → Lowest → Type 0
AreNeighbours swaps number lowest =
    ((place : ℕ) → AreAllBelow swaps number (take place lowest.numbers.items) (slice_index lowest.numbers.items place))
    × AreAllBelow swaps number lowest.numbers.items lowest.from

-- of each exchange
abbrev pub AreAllNeighbours : List (List (ℕ × ℕ)) → List Lowest → Type 0
AreAllNeighbours swaps all = (number : ℕ) (lowest : Lowest) → slice_get all number ≡ Some lowest → AreNeighbours swaps number lowest
