use Rattle.std.proofs.Common.{◌≡◌, ◌≢◌, ◌∙◌, sym, ap, map, length}
use Rattle.std.specs.Option.{option_map}
use Rattle.std.proofs.lemmas.List.{length-map}
use Rattle.std.proofs.lemmas.Result.{err_from_is_err_and}
use Rattle.tokens.specs.Reported.{reported_by}
use Rattle.task.specs.Task.{task_of}
use Rattle.task.specs.TaskParts.{schema_id_of, union_of}
use Rattle.formulas.specs.State as view
use Rattle.model.specs.PlanText.{IsNumberOf, schema_names}
use Rattle.plan_file.specs.PlanFile.{step_of, name_of}
use Rattle.plan_file.proofs.PlanSteps.{count_refused, objects_refused, step_means}
use Rattle.plan_file.proofs.steps.instance_of.Goals as goal

pub returns-then-names-parameters-clause-refused : goal.returns-then-names-parameters-clause-refused
returns-then-names-parameters-clause-refused c =
    let task = task_of c.args.task.now in
    let objects = c.args.names.now in
    let unions = map union_of c.parameters_of-parameters.result.now in
    let is : IsNumberOf (schema_names task) (name_of c.args.action) c.in-Some.schema.0 = sym c.in_ok-schema.ensures ∙ ap (option_map schema_id_of) c.in-Some.is in
    let differs : length (map name_of objects) ≢ length unions =
    λ h. c.if-names-parameters.true (sym (length-map objects name_of) ∙ h ∙ length-map c.parameters_of-parameters.result.now union_of) in
    count_refused task (step_of c.args.action c.args.names.now) c.in-Some.schema.0 unions is c.parameters_of-parameters.ensures.types differs (reported_by c.refused-then-names-parameters.result) c.refused-then-names-parameters.ensures

pub returns-in_err-objects-clause-refused : goal.returns-in_err-objects-clause-refused
returns-in_err-objects-clause-refused c =
    let p = err_from_is_err_and c.from_residual-in_err-objects.result c.from_residual-in_err-objects.ensures.1 in
    let task = task_of c.args.task.now in
    let objects = c.args.names.now in
    let unions = map union_of c.parameters_of-parameters.result.now in
    let is : IsNumberOf (schema_names task) (name_of c.args.action) c.in-Some.schema.0 = sym c.in_ok-schema.ensures ∙ ap (option_map schema_id_of) c.in-Some.is in
    let same : length (map name_of objects) ≡ length unions =
    length-map objects name_of ∙ c.if-names-parameters.false ∙ sym (length-map c.parameters_of-parameters.result.now union_of) in
    rw (p.1, p.2) (objects_refused task (step_of c.args.action c.args.names.now) c.in-Some.schema.0 unions is c.parameters_of-parameters.ensures.types same _ c.in_err-objects.ensures.refused)

pub returns-clause-means : goal.returns-clause-means
returns-clause-means c =
    let task = task_of c.args.task.now in
    let objects = c.args.names.now in
    let unions = map union_of c.parameters_of-parameters.result.now in
    let is : IsNumberOf (schema_names task) (name_of c.args.action) c.in-Some.schema.0 = sym c.in_ok-schema.ensures ∙ ap (option_map schema_id_of) c.in-Some.is in
    step_means task (step_of c.args.action c.args.names.now) (view.instance_of (record { schema = c.in-Some.schema; objects = c.in_ok-objects.objects })) unions is c.parameters_of-parameters.ensures.types c.in_ok-objects.ensures.objects c.in_ok-objects.ensures.fit
