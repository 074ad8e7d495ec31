-- Properties of the exchanges returned.
use Rattle.std.specs.Prelude.{ℕ, ◌≤◌, List, length, map, IsTrue}
use Rattle.std.specs.List.{list_all}
use Rattle.model.specs.Task.{Task}
use Rattle.symmetries_definitions.specs.Symmetries.{is_symmetry}
use Rattle.symmetries.specs.declared.exchange.Exchange.{Exchange}
use Rattle.symmetries.specs.Exchange.{exchange_of}

-- the maximum number of exchanges returned
abbrev pub most : ℕ
most = 1048576

-- each is a symmetry of the task, and the limit is respected
pub record AreTested (task : Task) (exchanges : List Exchange) : Type 0 where
  pub symmetries : IsTrue (list_all (is_symmetry task) (map exchange_of exchanges))
  pub few : length exchanges ≤ most
