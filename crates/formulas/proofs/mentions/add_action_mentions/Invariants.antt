use Rattle.std.proofs.Common.{take}
use Rattle.std.specs.List.{flat_map}
use Rattle.task.specs.Task.{task_of}
use Rattle.formulas.specs.Mentions.{schema_mentions}
use Rattle.formulas.specs.MentionViews.{Come}
use Rattle.formulas.proofs.mentions.add_action_mentions.Given as goal

-- what the actions so far give is added
abbrev pub invariant-loop-number : goal.invariant-loop-number
invariant-loop-number l = Come (flat_map schema_mentions (take l.number (task_of l.task).schemas)) l.initial.found.items l.found.items
