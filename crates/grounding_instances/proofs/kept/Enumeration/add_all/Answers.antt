use Rattle.std.proofs.Common.{◌∙◌, ◌≡◌, ◌++◌, ap, subst, map, length, List, arith}
use Rattle.std.specs.Prelude.{filter, OnOk, IfErr}
use Rattle.task.specs.Task.{task_of}
use Rattle.task.specs.TaskParts.{object_of, formula_of, shape_of}
use Rattle.formulas.specs.State.{instance_of}
use Rattle.model.specs.Task.{Instance}
use Rattle.model.specs.StaticallyFalse.{is_kept}
use Rattle.grounding_instances.specs.Parameters.{choice_of}
use Rattle.grounding_instances.specs.Kept.{ReportsInstances}
use Rattle.grounding_instances.proofs.ChosenObjects.{begun-all}
use Rattle.grounding_instances.proofs.ObjectLists.{few-choices}
use Rattle.grounding_instances.proofs.kept.Enumeration.add_all.Goals as goal

pub add-requires-clause-room : goal.add-requires-clause-room
add-requires-clause-room c =
    let schema = c.in-Some.schema.now in
    let parameters = c.in_ok-parameters.parameters.items in
    let count = few-choices (task_of c.args.self.now.statics.now.task.now) (formula_of schema.precondition) schema.parameters.items parameters c.in_ok-parameters.ensures.choices in
    omega (arith, ap length c.new.ensures, ap length c.as_slice.ensures.value, count, c.in-Some.ensures.few)

pub returns-clause-kept : goal.returns-clause-kept
returns-clause-kept c =
    let t = task_of c.args.self.now.statics.now.task.now in
    subst (λ (l : List Instance). OnOk c.add.result (map instance_of c.add.new.found.items ≡ map instance_of c.args.found.now.items ++ filter (is_kept t) l))
    (begun-all t c.args.self.now.schema.0 (shape_of c.in-Some.schema.now) c.in-Some.ensures.shape (map choice_of c.as_slice.result.now)
    (ap (map choice_of) c.as_slice.ensures.value ∙ c.in_ok-parameters.ensures.choices) (map object_of c.new.result.items) (ap (map object_of) c.new.ensures))
    c.add.ensures.kept

pub returns-clause-reported : goal.returns-clause-reported
returns-clause-reported c =
    let t = task_of c.args.self.now.statics.now.task.now in
    subst (λ (l : List Instance). IfErr c.add.result (ReportsInstances c.args.self.now.max (map instance_of c.args.found.now.items ++ filter (is_kept t) l)))
    (begun-all t c.args.self.now.schema.0 (shape_of c.in-Some.schema.now) c.in-Some.ensures.shape (map choice_of c.as_slice.result.now)
    (ap (map choice_of) c.as_slice.ensures.value ∙ c.in_ok-parameters.ensures.choices) (map object_of c.new.result.items) (ap (map object_of) c.new.ensures))
    c.add.ensures.reported
