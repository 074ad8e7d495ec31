-- The names of the quantified variables of a task, as its texts have them.
use Rattle.std.specs.Prelude.{◌≡◌, ℕ, List}
use Rattle.task.specs.VariableNames.{VariableNames}
use Rattle.typing.specs.Task.{variable_names}
use Rattle.model.specs.Task as task
use Rattle.model.specs.Files.{IsTaskOf}

-- the two texts are this task, whose quantified variables have these names
pub record IsNamedTask (domain problem : List ℕ) (t : task.Task) (names : VariableNames) : Type 0 where
  pub is_task : IsTaskOf domain problem t
  pub are_names : names ≡ variable_names is_task.domain_tree is_task.problem_tree
