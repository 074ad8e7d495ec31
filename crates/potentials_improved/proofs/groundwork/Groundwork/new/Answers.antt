use Rattle.std.proofs.Common.{length}
use Rattle.grounding.specs.Ground.{task_in, atoms_in}
use Rattle.model.specs.StaticallyFalse.{kept_instances}
use Rattle.potentials_improved.proofs.TestedLemmas.{tested, goal-said}
use Rattle.potentials_improved.proofs.groundwork.Groundwork.new.Goals as goal

pub invariant_of-result : goal.invariant_of-result
invariant_of-result c =
    let t = task_in c.args.ground.now in
    record {
      incidence = tested t (atoms_in c.args.ground.now) (length (kept_instances t)) c.in_ok-input.input.incidence c.in_ok-input.ensures;
      initial_is = c.in_ok-initial.ensures;
      goal_is = goal-said t (atoms_in c.args.ground.now) _ _ c.in_ok-goal.goal c.goal_literals.ensures c.width.ensures c.in_ok-goal.ensures;
    }
