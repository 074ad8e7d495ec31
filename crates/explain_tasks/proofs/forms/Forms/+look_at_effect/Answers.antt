use Rattle.std.proofs.Common.{◌∙◌, sym, ap}
use Rattle.task.specs.TaskParts.{effect_of}
use Rattle.explain_tasks.specs.Forms.{added, forms_in_effect}
use Rattle.explain_tasks.proofs.FormsLemmas.{added_all, forms_by_both}
use Rattle.explain_tasks.proofs.forms.Forms.+look_at_effect.Goals as goal

pub returns-after-loop-part : goal.returns-after-loop-part
returns-after-loop-part t c =
    c.loop-part.invariant
    ∙ added_all (λ part. forms_in_effect (effect_of part)) c.deref-part-items.result.now c.loop-part.part-index c.args.self.now c.loop-part-test.false
    ∙ ap (added c.args.self.now) (sym (forms_by_both c.args.effect.now c.in-And.parts c.deref-part-items.result.now c.in-And.is c.deref-part-items.ensures.value))
