use Rattle.std.proofs.Common.{sym}
use Rattle.task.specs.TaskParts.{effect_of}
use Rattle.formulas.proofs.FluentMarks.{marks_none, marks_more, marks_all, marks_by}
use Rattle.explain_tasks.specs.Predicates.{has_literal, makes}
use Rattle.explain_tasks.proofs.PredicateLemmas.{has_literal_by_parts}
use Rattle.explain_tasks.proofs.predicates.+mark_made.Goals as goal

pub loop-part-init : goal.loop-part-init
loop-part-init t c = marks_none c.args.table.now.items

pub loop-part-preserved : goal.loop-part-preserved
loop-part-preserved t c =
    marks_more (λ n part. has_literal (makes c.args.becoming n) (effect_of part)) c.deref-part-items.result.now c.loop-part.part-index c.args.table.now.items
    c.part-item.result c.loop-part.table.items c.mark_made.new.table.items c.loop-part-test.true c.part-item.is c.loop-part.invariant c.in_ok-mark_made-in-And.ensures

pub returns-after-loop-part : goal.returns-after-loop-part
returns-after-loop-part t c =
    let items = c.deref-part-items.result.now in
    marks_by _ (λ n. has_literal (makes c.args.becoming n) (effect_of c.args.effect.now)) c.args.table.now.items c.loop-part.table.items
    (λ n. sym (has_literal_by_parts (makes c.args.becoming n) c.args.effect.now c.in-And.parts items c.in-And.is c.deref-part-items.ensures.value))
    (marks_all (λ n part. has_literal (makes c.args.becoming n) (effect_of part)) items c.loop-part.part-index c.args.table.now.items c.loop-part.table.items c.loop-part-test.false c.loop-part.invariant)
