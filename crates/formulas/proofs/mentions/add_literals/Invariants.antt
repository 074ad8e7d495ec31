use Rattle.std.proofs.Common.{take}
use Rattle.std.specs.List.{flat_map}
use Rattle.task.specs.TaskParts.{effect_literal_of}
use Rattle.formulas.specs.Mentions.{literal_mentions}
use Rattle.formulas.specs.MentionViews.{Come}
use Rattle.formulas.proofs.mentions.add_literals.Given as goal

-- what the literals so far give is added
abbrev pub invariant-loop-literal : goal.invariant-loop-literal
invariant-loop-literal l = Come (flat_map (λ one. literal_mentions (effect_literal_of one)) (take l.literal-index l.literals)) l.initial.found.items l.found.items
