-- The printed verdict, and its exit status.
use Rattle.std.specs.Prelude.{ℕ, List, ◌++◌, codes}
use Rattle.std.specs.Fmt.{decimal}
use Rattle.model.specs.Runs.{Verdict, valid, not_applicable, goal_missed}

-- the line of a verdict
abbrev pub line_of : Verdict → List ℕ
line_of (valid cost) = codes "valid cost " ++ (decimal cost ++ codes "\n")
line_of (not_applicable step) = codes "not applicable step " ++ (decimal step ++ codes "\n")
line_of goal_missed = codes "goal missed\n"

-- the exit status: 0 if the plan solves the task, and 12 if it does not
abbrev pub status_of : Verdict → ℕ
status_of (valid cost) = 0
status_of (not_applicable step) = 12
status_of goal_missed = 12
