use Rattle.std.proofs.Common.{◌<◌, ◌≤◌, subst}
use Rattle.task.specs.Task.{task_of}
use Rattle.explain_tasks.specs.Forms.{added, forms_in}
use Rattle.explain_tasks.proofs.FormsLemmas.{all_are_forms, all_schemas, none, schemas_next}
use Rattle.explain_tasks.proofs.forms.Forms.of.Goals as goal

pub loop-number-preserved : goal.loop-number-preserved
loop-number-preserved c =
    let t = task_of c.args.task.now in
    schemas_next t.schemas c.loop-number.number (added none (forms_in t.goal)) c.loop-number.forms c.look_at_schema.new.self
    (subst (λ count. c.loop-number.number < count) c.schema_count-number-end.ensures c.loop-number-test.true)
    c.loop-number.invariant c.look_at_schema.ensures

pub returns : goal.returns
returns c =
    let t = task_of c.args.task.now in
    all_are_forms t c.loop-number.forms
    (all_schemas t c.loop-number.number c.loop-number.forms (subst (λ count. count ≤ c.loop-number.number) c.schema_count-number-end.ensures c.loop-number-test.false) c.loop-number.invariant)
