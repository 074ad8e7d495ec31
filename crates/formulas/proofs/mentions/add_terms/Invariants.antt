use Rattle.std.proofs.Common.{take}
use Rattle.std.specs.List.{flat_map}
use Rattle.task.specs.TaskParts.{term_of}
use Rattle.formulas.specs.Mentions.{term_mentions}
use Rattle.formulas.specs.MentionViews.{Come}
use Rattle.formulas.proofs.mentions.add_terms.Given as goal

-- what the terms so far give is added
abbrev pub invariant-loop-term : goal.invariant-loop-term
invariant-loop-term l = Come (flat_map (λ one. term_mentions (term_of one)) (take l.term-index l.terms)) l.initial.found.items l.found.items
