-- Lists of instances by an atom that they need.
use Rattle.std.specs.Prelude.{◌≡◌, ℕ, zero, suc, ◌+◌, ◌<◌, ◌≤◌, ◌==◌, Bool, true, false, List, [], ◌∷◌, ◌++◌, Option, None, Some, if◌then◌else◌, filter, length, slice_get}
use Rattle.std.specs.List.{All, range_with_len}
use Rattle.std.specs.Option.{option_map_or}
use Rattle.std.specs.Global.{Vec}
use Rattle.grounding.specs.declared.condition.Condition.{Condition}
use Rattle.grounding.specs.declared.watch_lists.WatchLists.{WatchLists}
use Rattle.grounding.specs.Conditions.{literals_in, can_hold_at}
use Rattle.grounding.specs.Watched.{IsRequired}

-- the number of times that a number is in a list
abbrev pub once : Bool → ℕ
once true = 1
once false = 0

abbrev pub times : ℕ → List ℕ → ℕ
times n [] = 0
times n (x ∷ xs) = once (x == n) + times n xs

-- the numbers in the first rows
abbrev pub filed_below : (ℕ → List ℕ) → ℕ → List ℕ
filed_below row zero = []
filed_below row (suc n) = filed_below row n ++ row n

-- the instances that watch this atom
abbrev pub row_of : WatchLists → ℕ → List ℕ
row_of w a = option_map_or (λ (v : Vec ℕ). v.items) (slice_get w.rows.items a) []

-- the instances in all lists
abbrev pub filed : WatchLists → List ℕ
filed w = filed_below (row_of w) (length w.rows.items) ++ w.unwatched.items

-- whether this atom is the watched one
abbrev pub is_in_row : Option ℕ → ℕ → Bool
is_in_row None a = false
is_in_row (Some watched) a = a == watched

-- the instances that watch no atom, once this one is filed
abbrev pub with_unwatched : Option ℕ → ℕ → List ℕ → List ℕ
with_unwatched None number items = items ++ number ∷ []
with_unwatched (Some watched) number items = items

-- the number is appended to the list of the watched atom, or to those that watch none; all other lists are as before
pub record IsFiled (number : ℕ) (watched : Option ℕ) (old new : WatchLists) : Type 0 where
  pub width : length new.rows.items ≡ length old.rows.items
  pub rows : (a : ℕ) → row_of new a ≡ (if is_in_row watched a then row_of old a ++ number ∷ [] else row_of old a)
  pub unwatched : new.unwatched.items ≡ with_unwatched watched number old.unwatched.items

-- the number is of one of these conditions, which needs the atom
abbrev pub IsRequiredBy : List Condition → ℕ → ℕ → Type 0
IsRequiredBy conditions a n = (n < length conditions) × ((c : Condition) → slice_get conditions n ≡ Some c → IsRequired (literals_in c) a)

-- Each of the first `count` conditions that may hold has its number in one list, once, and needs the atom of that list.
pub record AreWatched (width : ℕ) (conditions : List Condition) (count : ℕ) (w : WatchLists) : Type 0 where
  pub wide : length w.rows.items ≡ width
  pub few : length (filed w) ≤ count
  pub each : (n : ℕ) → times n (filed w) ≡ times n (filter (can_hold_at conditions) (range_with_len 0 count))
  pub rows : (a : ℕ) → All (IsRequiredBy conditions a) (row_of w a)
  pub unwatched : All (λ n. n < length conditions) w.unwatched.items
