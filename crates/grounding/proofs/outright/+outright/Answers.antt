use Rattle.std.proofs.Common.{◌∙◌, sym}
use Rattle.task.specs.TaskParts.{formula_of}
use Rattle.model.proofs.Tests.{passes_not, passes_whole, passes_map}
use Rattle.grounding.specs.Outright as outright
use Rattle.grounding.proofs.OutrightLemmas.{outright_by_all}
use Rattle.grounding.proofs.outright.+outright.Goals as goal

pub is_outright-returns-in-And : goal.is_outright-returns-in-And
is_outright-returns-in-And t c =
    c.are_outright.ensures
    ∙ sym (outright_by_all c.args.formula.now c.in-And.parts c.deref-in-And.result.now c.in-And.is c.deref-in-And.ensures.value)

pub are_outright-returns-then-not-is_outright : goal.are_outright-returns-then-not-is_outright
are_outright-returns-then-not-is_outright t c =
    passes_not (λ part. outright.is_outright (formula_of part)) c.args.parts.now c.loop-part.part-index c.part-item.result c.loop-part-test.true c.part-item.is
    (sym c.is_outright.ensures ∙ c.if-not-is_outright.true)
    ∙ sym (passes_map outright.is_outright formula_of c.args.parts.now)

pub are_outright-returns : goal.are_outright-returns
are_outright-returns t c =
    passes_whole (λ part. outright.is_outright (formula_of part)) c.args.parts.now c.loop-part.part-index c.loop-part-test.false c.loop-part.invariant
    ∙ sym (passes_map outright.is_outright formula_of c.args.parts.now)
