use Rattle.devices.specs.Progress.{nothing}
use Rattle.cert_checker.proofs.read_progress.say_if_due.Goals as goal

pub returns-then-lines-due : goal.returns-then-lines-due
returns-then-lines-due g c = nothing
