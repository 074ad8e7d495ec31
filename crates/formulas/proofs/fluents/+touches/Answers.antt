use Rattle.std.proofs.Common.{◌∙◌, sym}
use Rattle.task.specs.TaskParts.{effect_of}
use Rattle.model.specs.Fluents.{touches}
use Rattle.formulas.proofs.FluentTests.{touches_by_parts, any_more, any_here, any_nowhere}
use Rattle.formulas.proofs.fluents.+touches.Goals as goal

pub returns-then-touches : goal.returns-then-touches
returns-then-touches t c =
    any_here (λ part. touches c.args.predicate.0 (effect_of part)) c.deref-part-items.result.now c.loop-part.part-index c.part-item.result c.loop-part-test.true c.part-item.is (sym c.if-touches.ensures)
    ∙ sym (touches_by_parts c.args.predicate.0 c.args.effect.now c.in-And.parts c.deref-part-items.result.now c.in-And.is c.deref-part-items.ensures.value)

pub loop-part-preserved : goal.loop-part-preserved
loop-part-preserved t c =
    any_more (λ part. touches c.args.predicate.0 (effect_of part)) c.deref-part-items.result.now c.loop-part.part-index c.part-item.result c.loop-part-test.true c.part-item.is c.loop-part.invariant (sym c.if-touches.ensures)

pub returns-after-loop-part : goal.returns-after-loop-part
returns-after-loop-part t c =
    any_nowhere (λ part. touches c.args.predicate.0 (effect_of part)) c.deref-part-items.result.now c.loop-part.part-index c.loop-part-test.false c.loop-part.invariant
    ∙ sym (touches_by_parts c.args.predicate.0 c.args.effect.now c.in-And.parts c.deref-part-items.result.now c.in-And.is c.deref-part-items.ensures.value)
