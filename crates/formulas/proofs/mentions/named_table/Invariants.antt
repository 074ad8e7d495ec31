use Rattle.std.proofs.Common.{take, []}
use Rattle.std.specs.List.{list_any}
use Rattle.formulas.specs.Marks.{Marks}
use Rattle.formulas.specs.Mentions.{is_naming}
use Rattle.formulas.specs.MentionViews.{mention_of}
use Rattle.formulas.proofs.mentions.named_table.Given as goal

-- the objects so far are marked
abbrev pub invariant-loop-mention : goal.invariant-loop-mention
invariant-loop-mention l = Marks (λ n. list_any (λ one. is_naming n (mention_of one)) (take l.mention-index l.mentions)) [] l.table.items
