use Rattle.std.proofs.Common.{◌∙◌, ap, map}
use Rattle.task.specs.Task.{task_of}
use Rattle.task.specs.TaskParts.{object_of}
use Rattle.formulas.specs.State.{state_of}
use Rattle.model.specs.Meaning as meaning
use Rattle.formulas.proofs.Instances.{goal_fits}
use Rattle.formulas.proofs.truth.meets_goal.Goals as goal

pub holds-requires : goal.holds-requires
holds-requires c =
    let none = ap (map object_of) c.new.ensures in
    goal_fits (task_of c.args.task.now) _ (map object_of c.new.result.items) c.goal.ensures none c.args.task.now.well_typed

pub returns : goal.returns
returns c = c.holds.ensures ∙ (λ i. meaning.holds (task_of c.args.task.now) (c.goal.ensures i) (map object_of (c.new.ensures i)) (state_of c.args.state.now))
