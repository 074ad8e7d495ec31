use Rattle.std.proofs.Common.{take, []}
use Rattle.std.specs.List.{list_any}
use Rattle.formulas.specs.Marks.{Marks}
use Rattle.formulas.specs.Mentions.{is_asking}
use Rattle.formulas.specs.MentionViews.{mention_of}
use Rattle.explain_tasks.proofs.tables.asked_table.Given as goal

-- the predicates so far are marked
abbrev pub invariant-loop-mention : goal.invariant-loop-mention
invariant-loop-mention l = Marks (λ n. list_any (λ one. is_asking n (mention_of one)) (take l.mention-index l.mentions)) [] l.table.items
