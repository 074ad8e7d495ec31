-- The code's task, in the model's terms, and the names of its quantified variables, which the model's task does not have.
use Rattle.task.specs.declared.task.Task.{Task}
use Rattle.task.specs.TaskParts.{task_of_parts, variable_names_of_parts}
use Rattle.task.specs.VariableNames.{VariableNames}
use Rattle.model.specs.Task as task

abbrev pub task_of : Task → task.Task
task_of t = task_of_parts t.parts

abbrev pub variable_names_of : Task → VariableNames
variable_names_of t = variable_names_of_parts t.parts
