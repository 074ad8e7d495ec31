use Rattle.std.proofs.Common.{arith}
use Rattle.std.proofs.lemmas.Int.{ints}
use Rattle.grounding.specs.Ground.{task_in, atoms_in}
use Rattle.potentials.specs.Goals.{said_of}
use Rattle.potentials.proofs.GroundLemmas.{few-atoms}
use Rattle.potentials_improved.proofs.ClimbLemmas.{goal-moved, goal-range}
use Rattle.potentials_improved.proofs.climb.Climb.moved_goal.Goals as goal

pub weight-old-requires : goal.weight-old-requires
weight-old-requires g c = omega (arith, c.requires.within, c.requires.climb.width)

pub exchanged-requires-clause-least : goal.exchanged-requires-clause-least
exchanged-requires-clause-least g c =
    let range = goal-range (g.A.Allowance.allowance (task_in c.args.groundwork.now.ground.now)) (task_in c.args.groundwork.now.ground.now) (atoms_in c.args.groundwork.now.ground.now) c.args.self.now c.requires.climb (few-atoms c.args.groundwork.now.ground.now) in
    let low = range.0 in
    omega (arith, ints)

pub exchanged-requires-clause-most : goal.exchanged-requires-clause-most
exchanged-requires-clause-most g c =
    let range = goal-range (g.A.Allowance.allowance (task_in c.args.groundwork.now.ground.now)) (task_in c.args.groundwork.now.ground.now) (atoms_in c.args.groundwork.now.ground.now) c.args.self.now c.requires.climb (few-atoms c.args.groundwork.now.ground.now) in
    let high = range.1 in
    omega (arith, ints)

pub returns : goal.returns
returns g c =
    let ground = c.args.groundwork.now.ground.now in
    let moved = goal-moved (g.A.Allowance.allowance (task_in ground)) (task_in ground) (atoms_in ground) c.args.self.now.potentials.weights.items c.args.trial.atom c.args.trial.weight c.args.self.now.goal _ _
    c.gives-before.result c.gives-after.result c.of-said.result (said_of c.args.groundwork.now.goal c.args.trial.atom)
    c.requires.within c.requires.climb.width c.requires.climb.goal c.of-said.ensures (c.args.groundwork.now.goal_is.each c.args.trial.atom c.requires.within)
    (omega (arith, ints, c.weight-old.ensures.value)) (omega (arith, ints)) c.gives-before.ensures.value c.gives-after.ensures.value in
    let e = c.exchanged.ensures in
    omega (arith, ints)
