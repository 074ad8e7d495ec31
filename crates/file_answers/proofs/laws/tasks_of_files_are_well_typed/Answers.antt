use Rattle.typing.proofs.TypedTasks.{task_is_typed}
use Rattle.file_answers.proofs.laws.tasks_of_files_are_well_typed.Goals as goal

pub returns : goal.returns
returns c = task_is_typed
