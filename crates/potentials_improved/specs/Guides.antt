-- The use of fair potentials to a search of the ground task.
use Rattle.std.specs.Prelude.{ℕ, ◌≤◌, List}
use Rattle.model.specs.Task.{Atom, Task, Instance}
use Rattle.model.specs.Meaning.{cost_of}
use Rattle.model.specs.Grounding.{ground_system}
use Rattle.search.specs.Estimates.{IsConsistent, value_by}
use Rattle.search.specs.DeadEnds.{DetectsDeadEnds}
use Rattle.lower_bounds.specs.PotentialFunctions.{PotentialFunction, score, is_dead_by}

-- If no instance may lose more than it costs, the values are a consistent estimate. If none may lose anything, states with a value
-- of at least 1 are dead ends.
pub record Guides (allowance : Instance → ℕ) (task : Task) (atoms : List Atom) (p : PotentialFunction) : Type 0 where
  pub estimate : ((i : Instance) → allowance i ≤ cost_of task i) → IsConsistent (ground_system task atoms) (value_by (score p))
  pub dead_ends : ((i : Instance) → allowance i ≤ 0) → DetectsDeadEnds (ground_system task atoms) (is_dead_by p)
