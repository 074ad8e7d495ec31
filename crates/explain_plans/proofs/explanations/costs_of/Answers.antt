use Rattle.std.proofs.Common.{ap, ◌∙◌, ◌++◌, ◌∷◌, []}
use Rattle.task.specs.Task.{task_of}
use Rattle.formulas.specs.State.{instance_of}
use Rattle.formulas.proofs.ChangeLists.{mapped_more, mapped_whole}
use Rattle.model.specs.Meaning.{cost_of}
use Rattle.explain_plans.proofs.explanations.costs_of.Goals as goal

pub loop-step-preserved : goal.loop-step-preserved
loop-step-preserved c =
    mapped_more (λ i. cost_of (task_of c.args.task.now) (instance_of i)) [] c.args.steps.now c.loop-step.step-index c.step-item.result c.loop-step.costs.items c.push.new.self.items
    c.loop-step-test.true c.step-item.is c.loop-step.invariant (c.in_ok-push.ensures.items ∙ ap (λ n. c.loop-step.costs.items ++ n ∷ []) c.cost.ensures)

pub returns : goal.returns
returns c =
    mapped_whole (λ i. cost_of (task_of c.args.task.now) (instance_of i)) [] c.args.steps.now c.loop-step.step-index c.loop-step.costs.items c.loop-step-test.false c.loop-step.invariant
