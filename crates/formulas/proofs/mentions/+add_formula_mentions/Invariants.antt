use Rattle.std.proofs.Common.{take}
use Rattle.std.specs.List.{flat_map}
use Rattle.task.specs.TaskParts.{formula_of}
use Rattle.formulas.specs.Mentions.{mentions}
use Rattle.formulas.specs.MentionViews.{Come}
use Rattle.formulas.proofs.mentions.+add_formula_mentions.Given as goal

-- what the parts so far give is added
abbrev pub invariant-loop-part : goal.invariant-loop-part
invariant-loop-part l = Come (flat_map (λ part. mentions (formula_of part)) (take l.part-index l.part-items)) l.initial.found.items l.found.items

abbrev pub invariant-loop-choice : goal.invariant-loop-choice
invariant-loop-choice l = Come (flat_map (λ part. mentions (formula_of part)) (take l.choice-index l.choice-items)) l.initial.found.items l.found.items
