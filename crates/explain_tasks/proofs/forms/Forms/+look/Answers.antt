use Rattle.std.proofs.Common.{◌∙◌, sym, ap}
use Rattle.task.specs.TaskParts.{formula_of}
use Rattle.explain_tasks.specs.Forms.{added, forms_in}
use Rattle.explain_tasks.proofs.FormsLemmas.{added_all, added_next, forms_by_and, forms_by_or}
use Rattle.explain_tasks.proofs.forms.Forms.+look.Goals as goal

pub look_at-returns-in-And : goal.look_at-returns-in-And
look_at-returns-in-And t c =
    c.look_at_each.ensures
    ∙ ap (added c.args.self.now) (sym (forms_by_and c.args.formula.now c.in-And.parts c.deref.result.now c.in-And.is c.deref.ensures.value))

pub look_at-returns-in-Or : goal.look_at-returns-in-Or
look_at-returns-in-Or t c =
    c.look_at_each-in-Or.ensures
    ∙ ap (added c.args.self.now) (sym (forms_by_or c.args.formula.now c.in-Or.parts c.deref-in-Or.result.now c.in-Or.is c.deref-in-Or.ensures.value))

pub look_at_each-loop-part-preserved : goal.look_at_each-loop-part-preserved
look_at_each-loop-part-preserved t c =
    c.look_at.ensures ∙ ap (λ forms. added forms (forms_in (formula_of c.part-item.result))) c.loop-part.invariant
    ∙ added_next (λ part. forms_in (formula_of part)) c.args.parts.now c.loop-part.part-index c.part-item.result c.args.self.now c.loop-part-test.true c.part-item.is

pub look_at_each-returns : goal.look_at_each-returns
look_at_each-returns t c =
    c.loop-part.invariant ∙ added_all (λ part. forms_in (formula_of part)) c.args.parts.now c.loop-part.part-index c.args.self.now c.loop-part-test.false
