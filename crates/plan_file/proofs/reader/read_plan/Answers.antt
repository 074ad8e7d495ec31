use Rattle.std.proofs.Common.{rules, arith, ◌≡◌, ◌<◌, map, length, true, false, ⊎_elim}
use Rattle.std.specs.Prelude.{is_some}
use Rattle.std.proofs.lemmas.Bool.{cases_Bool}
use Rattle.std.proofs.lemmas.List.{length-map}
use Rattle.std.proofs.lemmas.Result.{err_from_is_err_and}
use Rattle.task.specs.Task.{task_of}
use Rattle.formulas.specs.State as view
use Rattle.model.proofs.PlanMeaning.{are_instances}
use Rattle.plan_file.proofs.PlanSteps.{none_of_plan, few_instances}
use Rattle.plan_file.proofs.reader.read_plan.Goals as goal

pub returns-in_err-instances-clause-taken : goal.returns-in_err-instances-clause-taken
returns-in_err-instances-clause-taken c = λ plan is.
    let p = err_from_is_err_and c.from_residual.result c.from_residual.ensures.1 in
    rw (p.1, p.2) (none_of_plan (task_of c.args.task.now) c.args.text.now _ c.in_err-instances.ensures.refused plan is)

pub unwrap-requires : goal.unwrap-requires
unwrap-requires c =
    let instances = c.in_ok-instances.instances.items in
    let (steps, has, mean) = c.in_ok-instances.ensures.plan in
    let few = few_instances (task_of c.args.task.now) c.args.text.now steps (map view.instance_of instances) has mean in
    ⊎_elim (λ (yes : is_some c.new.result ≡ true). yes)
    (λ (no : is_some c.new.result ≡ false).
    let long : 16777216 < length instances = search (rules, c.new.ensures.too_long.0 no) in
    absurd (omega (arith, few, long, length-map instances view.instance_of))) (cases_Bool (is_some c.new.result))

pub returns-clause-instances : goal.returns-clause-instances
returns-clause-instances c =
    let (steps, has, mean) = c.in_ok-instances.ensures.plan in
    let same : view.plan_of c.unwrap.result ≡ map view.instance_of c.in_ok-instances.instances.items = search rules in
    rw same (are_instances (task_of c.args.task.now) steps (map view.instance_of c.in_ok-instances.instances.items) mean)
