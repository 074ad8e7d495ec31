use Rattle.std.proofs.Common.{◌∙◌, ◌++◌, List, ℕ, ap, map}
use Rattle.std.specs.Prelude.{codes}
use Rattle.task.specs.NumberedNames.{form_text}
use Rattle.task.specs.Task.{task_of}
use Rattle.task.specs.TaskParts.{lifted_atom_of, object_of}
use Rattle.task.specs.declared.atoms.ObjectId.{ObjectId}
use Rattle.formulas.specs.State.{instance_of}
use Rattle.model.specs.PlanWriting.{schema_name}
use Rattle.explain_tasks.specs.NoteLines.{function_text, instance_text}
use Rattle.explain_tasks.proofs.NoteLemmas.{four_added}
use Rattle.explain_tasks.proofs.printing.add_lacking_value.Goals as goal

pub returns : goal.returns
returns c =
    let task = task_of c.args.task.now in
    let instance = instance_of c.args.instance.now in
    let so_far = c.extend_from_slice.new.self.items in
    four_added c.args.line.now.items (function_text task instance (lifted_atom_of c.args.function.now)) (codes " has no value, so ") (instance_text task instance) (codes " can never be applied.")
    c.add_function.new.line.items so_far c.add_form.new.text.items c.extend_from_slice-2.new.self.items
    c.in_ok-add_function.ensures
    c.in_ok-extend_from_slice.ensures.items
    (c.in_ok-add_form.ensures
    ∙ ap (λ (n : List ℕ). so_far ++ form_text task n (map object_of c.as_slice.result.now)) c.name_of_schema-name.ensures
    ∙ ap (λ (objects : List ObjectId). so_far ++ form_text task (schema_name task instance.schema) (map object_of objects)) c.as_slice.ensures.value)
    c.in_ok-extend_from_slice-2.ensures.items
