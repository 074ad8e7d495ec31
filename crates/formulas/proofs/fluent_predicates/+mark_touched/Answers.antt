use Rattle.std.proofs.Common.{sym}
use Rattle.task.specs.TaskParts.{effect_of}
use Rattle.model.specs.Fluents.{touches}
use Rattle.formulas.proofs.FluentTests.{touches_by_parts}
use Rattle.formulas.proofs.FluentMarks.{marks_none, marks_more, marks_all, marks_by}
use Rattle.formulas.proofs.fluent_predicates.+mark_touched.Goals as goal

pub loop-part-init : goal.loop-part-init
loop-part-init t c = marks_none c.args.table.now.items

pub loop-part-preserved : goal.loop-part-preserved
loop-part-preserved t c =
    marks_more (λ n part. touches n (effect_of part)) c.deref-part-items.result.now c.loop-part.part-index c.args.table.now.items
    c.part-item.result c.loop-part.table.items c.mark_touched.new.table.items c.loop-part-test.true c.part-item.is c.loop-part.invariant c.in_ok-mark_touched-in-And.ensures

pub returns-after-loop-part : goal.returns-after-loop-part
returns-after-loop-part t c =
    let items = c.deref-part-items.result.now in
    marks_by _ (λ n. touches n (effect_of c.args.effect.now)) c.args.table.now.items c.loop-part.table.items
    (λ n. sym (touches_by_parts n c.args.effect.now c.in-And.parts items c.in-And.is c.deref-part-items.ensures.value))
    (marks_all (λ n part. touches n (effect_of part)) items c.loop-part.part-index c.args.table.now.items c.loop-part.table.items c.loop-part-test.false c.loop-part.invariant)
