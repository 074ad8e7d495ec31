use Rattle.std.proofs.Common.{map, take}
use Rattle.formulas.specs.Mentions.{named}
use Rattle.formulas.specs.MentionViews.{Come}
use Rattle.explain_tasks.proofs.mentions.add_objects.Given as goal

-- the objects so far are added
abbrev pub invariant-loop-object : goal.invariant-loop-object
invariant-loop-object l = Come (map (λ o. named o.0) (take l.object-index l.objects)) l.initial.found.items l.found.items
