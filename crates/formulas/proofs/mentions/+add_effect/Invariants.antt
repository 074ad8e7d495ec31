use Rattle.std.proofs.Common.{take}
use Rattle.std.specs.List.{flat_map}
use Rattle.task.specs.TaskParts.{effect_of}
use Rattle.formulas.specs.Mentions.{effect_mentions}
use Rattle.formulas.specs.MentionViews.{Come}
use Rattle.formulas.proofs.mentions.+add_effect.Given as goal

-- what the parts so far give is added
abbrev pub invariant-loop-part : goal.invariant-loop-part
invariant-loop-part l = Come (flat_map (λ part. effect_mentions (effect_of part)) (take l.part-index l.part-items)) l.initial.found.items l.found.items
