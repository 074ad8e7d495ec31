use Rattle.std.proofs.Common.{◌∙◌, sym}
use Rattle.task.specs.TaskParts.{effect_of}
use Rattle.formulas.proofs.FluentTests.{any_more, any_here, any_nowhere}
use Rattle.explain_tasks.specs.Conjuncts.{has_sure_literal, is_undone}
use Rattle.explain_tasks.proofs.ConjunctLemmas.{has_sure_literal_by_parts}
use Rattle.explain_tasks.proofs.conjuncts.+has_undone.Goals as goal

pub returns-then-has_undone : goal.returns-then-has_undone
returns-then-has_undone t c =
    let test = (is_undone (effect_of c.args.whole.now)) in
    any_here (λ part. has_sure_literal test (effect_of part)) c.deref-part-items.result.now c.loop-part.part-index c.part-item.result c.loop-part-test.true c.part-item.is (sym c.if-has_undone.ensures)
    ∙ sym (has_sure_literal_by_parts test c.args.effect.now c.in-And.parts c.deref-part-items.result.now c.in-And.is c.deref-part-items.ensures.value)

pub loop-part-preserved : goal.loop-part-preserved
loop-part-preserved t c =
    any_more (λ part. has_sure_literal (is_undone (effect_of c.args.whole.now)) (effect_of part)) c.deref-part-items.result.now c.loop-part.part-index c.part-item.result c.loop-part-test.true c.part-item.is c.loop-part.invariant (sym c.if-has_undone.ensures)

pub returns-after-loop-part : goal.returns-after-loop-part
returns-after-loop-part t c =
    let test = (is_undone (effect_of c.args.whole.now)) in
    any_nowhere (λ part. has_sure_literal test (effect_of part)) c.deref-part-items.result.now c.loop-part.part-index c.loop-part-test.false c.loop-part.invariant
    ∙ sym (has_sure_literal_by_parts test c.args.effect.now c.in-And.parts c.deref-part-items.result.now c.in-And.is c.deref-part-items.ensures.value)
