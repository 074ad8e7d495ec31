use Rattle.std.proofs.Common.{rules}
use Rattle.command_line.specs.Description as description
use Rattle.command_line.proofs.description.add_explain.Goals as goal

pub returns : goal.returns
returns c = c.add_command.ensures description.explain.rules (rw (c.in_ok-arguments.ensures.items) (search rules))
