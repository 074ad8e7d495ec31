use Rattle.std.proofs.Common.{◌∙◌, ap, sym}
use Rattle.std.specs.Option.{option_map}
use Rattle.task.specs.Task.{task_of}
use Rattle.task.specs.TaskParts.{object_of}
use Rattle.cert_checker.proofs.NamedExchanges.{said_none}
use Rattle.cert_checker.proofs.exchanges.object_said.Goals as goal

pub returns-in-None : goal.returns-in-None
returns-in-None c =
    c.object_count.ensures ∙ said_none (task_of c.args.task.now) c.args.name.now (sym c.object_named.ensures ∙ ap (option_map object_of) c.in-None.is)
