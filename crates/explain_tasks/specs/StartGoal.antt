-- Goals that are true at the start, so that the plan without steps solves the task.
use Rattle.std.specs.Prelude.{Bool, true, false, not, ◌&&◌}
use Rattle.model.specs.Task.{Task, Formula, and, no_formula}
use Rattle.model.specs.Meaning.{initial_state, meets_goal}

-- a conjunction of nothing
abbrev pub is_empty : Formula → Bool
is_empty (and no_formula) = true
is_empty _ = false

-- the goal is not empty, and true in the initial state
abbrev pub starts_at_goal : Task → Bool
starts_at_goal t = not (is_empty t.goal) && meets_goal t (initial_state t)
