use Rattle.std.proofs.Common.{ap, sym, subst, map, true, Some, ◌≡◌}
use Rattle.std.specs.List.{list_all}
use Rattle.task.specs.Task.{task_of, variable_names_of}
use Rattle.task.specs.TaskParts.{formula_of, object_of}
use Rattle.formulas.specs.State.{instance_of, plan_of, state_of}
use Rattle.formulas.proofs.Instances.{goal_fits}
use Rattle.explain_plans.specs.Explanations.{AreReasons}
use Rattle.model.specs.Meaning.{initial_state, is_instance, system_of}
use Rattle.model.specs.Runs.{run}
use Rattle.explain_plans.proofs.explanations.Explainer.why_missed.Goals as goal

pub why_false-requires-clause-fits : goal.why_false-requires-clause-fits
why_false-requires-clause-fits c =
    goal_fits (task_of c.args.self.task.now) _ (map object_of c.new-nothing.result.items) c.goal-goal.ensures (ap (map object_of) c.new-nothing.ensures) c.args.self.task.now.well_typed

pub why_false-requires-clause-instances : goal.why_false-requires-clause-instances
why_false-requires-clause-instances c = subst (λ l. list_all (is_instance (task_of c.args.self.task.now)) l ≡ true) (sym c.steps-steps.ensures.steps) c.requires.instances

pub why_false-requires-clause-leads : goal.why_false-requires-clause-leads
why_false-requires-clause-leads c =
    let task = task_of c.args.self.task.now in
    subst (λ l. run (system_of task) (initial_state task) l ≡ Some (state_of c.args.state.now)) (sym c.steps-steps.ensures.steps) c.requires.state

pub returns-clause-explained : goal.returns-clause-explained
returns-clause-explained c =
    let task = task_of c.args.self.task.now in
    let reasons = c.in_ok-reasons.reasons in
    let names = (variable_names_of c.args.self.task.now).goal in
    subst (λ l. AreReasons task (plan_of c.args.self.plan.now) task.goal l names reasons) (ap (map object_of) c.new-nothing.ensures)
    (subst (λ f. AreReasons task (plan_of c.args.self.plan.now) f (map object_of c.new-nothing.result.items) names reasons) c.goal-goal.ensures
    (subst (λ l. AreReasons task l (formula_of c.goal-goal.result.now) (map object_of c.new-nothing.result.items) names reasons) c.steps-steps.ensures.steps
    (subst (λ l. AreReasons task (map instance_of c.steps-steps.result.now) (formula_of c.goal-goal.result.now) (map object_of c.new-nothing.result.items) l reasons)
    c.goal_names.ensures c.in_ok-reasons.ensures)))
