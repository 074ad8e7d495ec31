-- Counters of what instances are charged.
use Rattle.std.specs.Prelude.{◌≡◌, ℕ, ◌≤◌, nat_lt, if◌then◌else◌, get_or, length}
use Rattle.landmarks.specs.declared.counters.Counter.{Counter}
use Rattle.landmarks.specs.declared.counters.Counters.{Counters}

abbrev pub counter_at : Counters → ℕ → Counter
counter_at c number = get_or c.counters.items number (record { seen = 0; charged = 0 })

-- what the counter says, of a value that began at this time
abbrev pub charged_by : ℕ → Counter → ℕ
charged_by start c = if nat_lt start c.seen then c.charged else 0

-- what the instance with this number is charged by the value
abbrev pub charged_at : Counters → ℕ → ℕ
charged_at c number = charged_by c.start (counter_at c number)

-- a counter for each of this many instances, none of which was looked at later than now
pub record AreCounters (count : ℕ) (c : Counters) : Type 0 where
  pub long : length c.counters.items ≡ count
  pub seen : (number : ℕ) → (counter_at c number).seen ≤ c.clock
