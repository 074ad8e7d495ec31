use Rattle.std.proofs.Common.{take}
use Rattle.std.specs.List.{flat_map}
use Rattle.task.specs.TaskParts.{atom_of}
use Rattle.explain_tasks.specs.Mentions.{fact_mentions}
use Rattle.formulas.specs.MentionViews.{Come}
use Rattle.explain_tasks.proofs.mentions.add_facts.Given as goal

-- what the facts so far give is added
abbrev pub invariant-loop-fact : goal.invariant-loop-fact
invariant-loop-fact l = Come (flat_map (λ fact. fact_mentions (atom_of fact)) (take l.fact-index l.facts)) l.initial.found.items l.found.items
