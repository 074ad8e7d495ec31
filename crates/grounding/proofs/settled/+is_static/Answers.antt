use Rattle.std.proofs.Common.{◌∙◌, sym}
use Rattle.task.specs.TaskParts.{formula_of}
use Rattle.grounding_instances.specs.Numbering.{task_in}
use Rattle.model.proofs.Tests.{passes_not, passes_whole, passes_map}
use Rattle.grounding.specs.Settled as settled
use Rattle.grounding.proofs.SettledLemmas.{static_by_all, static_by_some}
use Rattle.grounding.proofs.settled.+is_static.Goals as goal

pub is_static-returns-in-And : goal.is_static-returns-in-And
is_static-returns-in-And t c =
    c.are_static.ensures
    ∙ sym (static_by_all (task_in c.args.numbering.now) c.args.formula.now c.in-And.parts c.deref.result.now c.in-And.is c.deref.ensures.value)

pub is_static-returns-in-Or : goal.is_static-returns-in-Or
is_static-returns-in-Or t c =
    c.are_static-in-Or.ensures
    ∙ sym (static_by_some (task_in c.args.numbering.now) c.args.formula.now c.in-Or.parts c.deref-in-Or.result.now c.in-Or.is c.deref-in-Or.ensures.value)

pub are_static-returns-then-not-is_static : goal.are_static-returns-then-not-is_static
are_static-returns-then-not-is_static t c =
    passes_not (λ part. settled.is_static (task_in c.args.numbering.now) (formula_of part)) c.args.parts.now c.loop-part.part-index c.part-item.result c.loop-part-test.true c.part-item.is
    (sym c.is_static.ensures ∙ c.if-not-is_static.true)
    ∙ sym (passes_map (settled.is_static (task_in c.args.numbering.now)) formula_of c.args.parts.now)

pub are_static-returns : goal.are_static-returns
are_static-returns t c =
    passes_whole (λ part. settled.is_static (task_in c.args.numbering.now) (formula_of part)) c.args.parts.now c.loop-part.part-index c.loop-part-test.false c.loop-part.invariant
    ∙ sym (passes_map (settled.is_static (task_in c.args.numbering.now)) formula_of c.args.parts.now)
