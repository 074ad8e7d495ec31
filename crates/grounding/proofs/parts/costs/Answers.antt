use Rattle.std.proofs.Common.{◌≡◌, ◌∙◌, ◌++◌, ◌∷◌, [], Some, ap, map}
use Rattle.std.specs.Prelude.{slice_get}
use Rattle.formulas.specs.State.{instance_of}
use Rattle.grounding_instances.specs.Numbering.{task_in}
use Rattle.model.specs.Task.{Task}
use Rattle.model.specs.Meaning.{cost_of}
use Rattle.grounding.proofs.GroundLemmas.{got-mapped, costs-more}
use Rattle.grounding.proofs.parts.costs.Goals as goal

pub loop-instance-preserved : goal.loop-instance-preserved
loop-instance-preserved c =
    let t = task_in c.args.numbering.now in
    let items = c.instances-instances.result.now in
    let k = c.loop-instance.instance-index in
    let i = instance_of c.instance-item.result in
    let at : slice_get (map instance_of items) k ≡ Some i = got-mapped instance_of items k c.instance-item.result c.loop-instance-test.true c.instance-item.is in
    let price : c.cost.result ≡ cost_of t i = c.cost.ensures ∙ ap (λ (u : Task). cost_of u i) c.task.ensures in
    c.in_ok-push.ensures.items ∙ (λ j. c.loop-instance.invariant j ++ price j ∷ []) ∙ costs-more (cost_of t) (map instance_of items) k i at
