-- How several values over tables guide a search of the ground task.
use Rattle.std.specs.Prelude.{List}
use Rattle.model.specs.Task.{Atom, Task}
use Rattle.model.specs.Grounding.{ground_system}
use Rattle.search.specs.Estimates.{IsConsistent}
use Rattle.search.specs.DeadEnds.{DetectsDeadEnds}
use Rattle.lower_bounds.specs.TableFunctions.{SeveralValues, functions_of, dead_ends_of, greatest_value, is_dead_by}

-- the greatest value is a consistent estimate, and a value for dead ends of at least 1 shows a dead end
pub record Guides (task : Task) (atoms : List Atom) (s : SeveralValues) : Type 0 where
  pub estimate : IsConsistent (ground_system task atoms) (greatest_value (functions_of s))
  pub dead_ends : DetectsDeadEnds (ground_system task atoms) (is_dead_by (dead_ends_of s))
