use Rattle.std.proofs.Common.{ap, ◌∙◌, map}
use Rattle.task.specs.Task.{task_of}
use Rattle.formulas.specs.State.{instance_of}
use Rattle.formulas.proofs.ChangeLists.{map_twice}
use Rattle.model.specs.Meaning.{cost_of}
use Rattle.explain_plans.proofs.explanations.Explainer.why_valid.Goals as goal

pub returns-clause-explained : goal.returns-clause-explained
returns-clause-explained c =
    c.in_ok-costs.ensures ∙ map_twice (cost_of (task_of c.args.self.task.now)) instance_of c.steps-steps.result.now
    ∙ ap (map (cost_of (task_of c.args.self.task.now))) c.steps-steps.ensures.steps
