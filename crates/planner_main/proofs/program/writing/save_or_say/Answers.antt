use Rattle.devices.specs.Progress.{nothing}
use Rattle.planner_main.proofs.program.writing.save_or_say.Goals as goal

pub returns-in-Ok-clause-progress : goal.returns-in-Ok-clause-progress
returns-in-Ok-clause-progress g c = nothing
