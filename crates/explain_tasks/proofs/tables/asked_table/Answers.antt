use Rattle.std.proofs.Common.{[], ap}
use Rattle.formulas.specs.Marks.{is_marked}
use Rattle.formulas.specs.Mentions.{is_asking}
use Rattle.formulas.specs.MentionViews.{mention_of}
use Rattle.formulas.proofs.FluentMarks.{marks_all, marks_next, table_of}
use Rattle.explain_tasks.proofs.tables.asked_table.Goals as goal

pub loop-mention-init : goal.loop-mention-init
loop-mention-init c = λ n. ap (λ l. is_marked l n) c.new-table.ensures.items

pub loop-mention-preserved : goal.loop-mention-preserved
loop-mention-preserved c =
    marks_next (λ n one. is_asking n (mention_of one)) c.args.mentions.now c.loop-mention.mention-index _ [] c.loop-mention.table.items c.mark_asked.new.table.items
    c.loop-mention-test.true c.loop-mention.invariant c.in_ok-mark_asked.ensures

pub returns : goal.returns
returns c =
    table_of is_asking mention_of c.args.mentions.now c.loop-mention.table.items
    (marks_all (λ n one. is_asking n (mention_of one)) c.args.mentions.now c.loop-mention.mention-index [] c.loop-mention.table.items c.loop-mention-test.false c.loop-mention.invariant)
