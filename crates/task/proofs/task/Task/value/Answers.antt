use Rattle.std.proofs.Common.{◌∙◌}
use Rattle.task.proofs.AtomEquality.{value-alike}
use Rattle.task.proofs.task.Task.value.Goals as goal

pub returns : goal.returns
returns c = c.copied.ensures ∙ c.get.ensures.value ∙ value-alike c.args.function.now c.args.self.now.parts.values.entries
