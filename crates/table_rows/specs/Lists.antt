-- Lists of numbers by place.
use Rattle.std.specs.Prelude.{◌≡◌, ℕ, ◌<◌, ◌==◌, Bool, true, ◌&&◌, ◌||◌, if◌then◌else◌, List, [], ◌∷◌, ◌++◌, length, slice_get, Some}
use Rattle.std.specs.Option.{option_map_or}
use Rattle.std.specs.Global.{Vec}
use Rattle.packed_state.specs.Sets.{has}
use Rattle.lower_bounds.specs.TableFunctions.{is_among}
use Rattle.table_rows.specs.declared.lists.Lists.{Lists}

-- the number of places that have a list
abbrev pub place_count : Lists → ℕ
place_count l = length l.lists.items

-- the list of this place; empty past the width
abbrev pub list_at : Lists → ℕ → List ℕ
list_at l place = option_map_or (λ (v : Vec ℕ). v.items) (slice_get l.lists.items place) []

-- the number is appended to the list of each place in the set; nothing else is new
pub record IsFiled (set : List Bool) (number : ℕ) (old new : Lists) : Type 0 where
  pub width : length new.lists.items ≡ length old.lists.items
  pub lists : (place : ℕ) → list_at new place ≡ (if has set place then list_at old place ++ number ∷ [] else list_at old place)

-- the number is appended to the list of each of these places; nothing else is new
pub record IsFiledAt (places : List ℕ) (number : ℕ) (old new : Lists) : Type 0 where
  pub width : length new.lists.items ≡ length old.lists.items
  pub lists : (place k : ℕ) → is_among (list_at new place) k ≡ (is_among (list_at old place) k || (is_among places place && number == k))

-- the list of each place has the numbers of those of the first `count` sets that have it
pub record IsIndexOf (sets : List (List Bool)) (count : ℕ) (l : Lists) : Type 0 where
  pub covers : (place number : ℕ) (set : List Bool) → number < count → slice_get sets number ≡ Some set → has set place ≡ true → is_among (list_at l place) number ≡ true
  pub within : (place number : ℕ) → is_among (list_at l place) number ≡ true → number < count
