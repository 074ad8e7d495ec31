-- A system of rooms without a goal. A state is the set of a room's doors.
use Rattle.std.specs.Prelude.{ℕ, Bool, false, if◌then◌else◌, List, [], ◌∷◌, None, Some, refl, slice_get}
use Rattle.std.specs.Option.{option_map_or}
use Rattle.model.specs.Runs.{System}
use Rattle.packed_state.specs.Sets.{has}
use Rattle.packed_state.specs.Words.{bits_in}
use Rattle.search.specs.Estimates.{IsAdmissible, IsLowerBound}
use Rattle.search.specs.DeadEnds.{IsDeadEnd, ReportsDeadEnds}
use Rattle.search_tests.specs.declared.rooms.Door.{Door}

-- the doors that a word has
abbrev pub room : ℕ → List Bool
room word = bits_in 64 (word ∷ [])

-- what is behind a door
abbrev pub behind : ℕ → List Door → ℕ → ℕ
behind first doors door = option_map_or (λ d. d.1) (slice_get doors door) first

-- what it costs
abbrev pub price : List Door → ℕ → ℕ
price doors door = option_map_or (λ d. d.0) (slice_get doors door) 0

abbrev pub rooms : ℕ → List Door → System (List Bool) ℕ
rooms first doors = record {
  initial = room first;
  step = λ s door. if has s door then Some (room (behind first doors door)) else None;
  cost = price doors;
  meets_goal = λ _. false;
}

-- where there is no goal, each number is a lower bound, and each room is a dead end
pub any_bound : (first : ℕ) (doors : List Door) (s : List Bool) (least : ℕ) → IsLowerBound (rooms first doors) s least
any_bound first doors s least end plan runs goal = absurd (cc)

pub any_dead : (first : ℕ) (doors : List Door) (s : List Bool) → IsDeadEnd (rooms first doors) s
any_dead first doors s end plan runs = refl

-- the sign of a room with door 63
abbrev pub sign : ℕ → List Bool → ℕ
sign value s = if has s 63 then value else 0

pub signs_admissible : (first : ℕ) (doors : List Door) (value : ℕ) → IsAdmissible (rooms first doors) (sign value)
signs_admissible first doors value s = any_bound first doors s (sign value s)

pub none_dead : (first : ℕ) (doors : List Door) → ReportsDeadEnds (rooms first doors) (λ _. false)
none_dead first doors s reported = any_dead first doors s
