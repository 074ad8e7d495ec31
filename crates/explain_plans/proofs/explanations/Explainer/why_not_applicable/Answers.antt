use Rattle.std.proofs.Common.{sym, ap, ◌∙◌, ◌-◌, map, take, refl}
use Rattle.std.specs.Option.{option_map}
use Rattle.task.specs.Task.{task_of, variable_names_of}
use Rattle.task.specs.TaskParts.{object_of, shape_of}
use Rattle.task.specs.Names.{names_in}
use Rattle.formulas.specs.State.{plan_of, state_of}
use Rattle.formulas.proofs.Instances.{precondition_fits}
use Rattle.explain_plans.proofs.Stopping.{before_all, before_leads, schema_is_some, step_is_one, reported, turned}
use Rattle.explain_plans.proofs.explanations.Explainer.why_not_applicable.Goals as goal

pub unwrap-schema-requires : goal.unwrap-schema-requires
unwrap-schema-requires c =
    schema_is_some (task_of c.args.self.task.now) c.steps-steps.result.now (plan_of c.args.self.plan.now) c.steps-steps.ensures.steps c.args.step c.requires.stops c.requires.instances
    c.index-steps-step.result c.index-steps-step.is (λ s. shape_of s.now) c.schema.result c.schema.ensures.shape

pub why_false-requires-clause-fits : goal.why_false-requires-clause-fits
why_false-requires-clause-fits c =
    let task = task_of c.args.self.task.now in
    let item = c.index-steps-step.result in
    precondition_fits task item.schema.0 (shape_of c.unwrap-schema.result.now)
    (ap (option_map (λ s. shape_of s.now)) (sym c.unwrap-schema.ensures) ∙ c.schema.ensures.shape) (map object_of item.objects.items)
    (step_is_one task c.steps-steps.result.now (plan_of c.args.self.plan.now) c.steps-steps.ensures.steps c.args.step c.requires.stops c.requires.instances item c.index-steps-step.is)
    c.args.self.task.now.well_typed

pub why_false-requires-clause-instances : goal.why_false-requires-clause-instances
why_false-requires-clause-instances c =
    before_all (task_of c.args.self.task.now) c.steps-steps.result.now (plan_of c.args.self.plan.now) c.steps-steps.ensures.steps c.args.step c.requires.stops c.requires.instances
    (take (c.args.step - 1) c.steps-steps.result.now) refl

pub why_false-requires-clause-leads : goal.why_false-requires-clause-leads
why_false-requires-clause-leads c =
    before_leads (task_of c.args.self.task.now) c.steps-steps.result.now (plan_of c.args.self.plan.now) c.steps-steps.ensures.steps c.args.step c.requires.stops
    (take (c.args.step - 1) c.steps-steps.result.now) refl (state_of c.args.state.now) c.requires.state

pub returns-clause-explained : goal.returns-clause-explained
returns-clause-explained c =
    let task = task_of c.args.self.task.now in
    reported task c.steps-steps.result.now (plan_of c.args.self.plan.now) c.steps-steps.ensures.steps c.args.step c.requires.stops c.requires.instances
    c.index-steps-step.result c.index-steps-step.is (shape_of c.unwrap-schema.result.now)
    (ap (option_map (λ s. shape_of s.now)) (sym c.unwrap-schema.ensures) ∙ c.schema.ensures.shape)
    c.amount.result c.amount.ensures c.is_none-lacks_cost.result (turned _ _ c.is_none-lacks_cost.ensures) c.in_ok-reasons.reasons
    (take (c.args.step - 1) c.steps-steps.result.now) refl (variable_names_of c.args.self.task.now) (names_in c.precondition_names.result.now) c.precondition_names.ensures c.in_ok-reasons.ensures
