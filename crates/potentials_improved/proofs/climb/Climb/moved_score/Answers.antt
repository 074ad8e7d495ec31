use Rattle.std.proofs.Common.{length, refl, ap, arith}
use Rattle.std.proofs.lemmas.Int.{ints}
use Rattle.packed_state.specs.Packed.{bits_of}
use Rattle.grounding.specs.Ground.{task_in, atoms_in}
use Rattle.potentials.specs.Potentials.{potentials_of}
use Rattle.potentials.proofs.GroundLemmas.{few-atoms}
use Rattle.potentials_improved.proofs.ClimbLemmas.{score-moved, score-range, initial-long}
use Rattle.potentials_improved.proofs.climb.Climb.moved_score.Goals as goal

pub weight-old-requires : goal.weight-old-requires
weight-old-requires g c = omega (arith, c.requires.within, c.requires.climb.width)

pub given-before-requires-clause-within : goal.given-before-requires-clause-within
given-before-requires-clause-within g c = omega (arith, c.requires.within, ap length c.args.groundwork.now.initial_is, initial-long (g.A.Allowance.allowance (task_in c.args.groundwork.now.ground.now)) (task_in c.args.groundwork.now.ground.now) (atoms_in c.args.groundwork.now.ground.now))

pub given-after-requires-clause-within : goal.given-after-requires-clause-within
given-after-requires-clause-within g c = omega (arith, c.requires.within, ap length c.args.groundwork.now.initial_is, initial-long (g.A.Allowance.allowance (task_in c.args.groundwork.now.ground.now)) (task_in c.args.groundwork.now.ground.now) (atoms_in c.args.groundwork.now.ground.now))

pub exchanged-moved-requires-clause-least : goal.exchanged-moved-requires-clause-least
exchanged-moved-requires-clause-least g c =
    let range = score-range (g.A.Allowance.allowance (task_in c.args.groundwork.now.ground.now)) (task_in c.args.groundwork.now.ground.now) (atoms_in c.args.groundwork.now.ground.now) c.args.self.now c.requires.climb (few-atoms c.args.groundwork.now.ground.now) in
    let low = range.0 in
    omega (arith, ints)

pub exchanged-moved-requires-clause-most : goal.exchanged-moved-requires-clause-most
exchanged-moved-requires-clause-most g c =
    let range = score-range (g.A.Allowance.allowance (task_in c.args.groundwork.now.ground.now)) (task_in c.args.groundwork.now.ground.now) (atoms_in c.args.groundwork.now.ground.now) c.args.self.now c.requires.climb (few-atoms c.args.groundwork.now.ground.now) in
    let high = range.1 in
    omega (arith, ints)

pub exchanged-requires-clause-least : goal.exchanged-requires-clause-least
exchanged-requires-clause-least g c =
    let range = score-range (g.A.Allowance.allowance (task_in c.args.groundwork.now.ground.now)) (task_in c.args.groundwork.now.ground.now) (atoms_in c.args.groundwork.now.ground.now) c.args.self.now c.requires.climb (few-atoms c.args.groundwork.now.ground.now) in
    let low = range.0 in
    let e = c.exchanged-moved.ensures in
    let k = c.requires.constant in
    let k_least = k.least in
    let own = c.args.self.now.potentials.constant_in_range in
    let own_most = own.most in
    let is = c.constant.ensures in
    omega (arith, ints)

pub exchanged-requires-clause-most : goal.exchanged-requires-clause-most
exchanged-requires-clause-most g c =
    let range = score-range (g.A.Allowance.allowance (task_in c.args.groundwork.now.ground.now)) (task_in c.args.groundwork.now.ground.now) (atoms_in c.args.groundwork.now.ground.now) c.args.self.now c.requires.climb (few-atoms c.args.groundwork.now.ground.now) in
    let high = range.1 in
    let e = c.exchanged-moved.ensures in
    let k = c.requires.constant in
    let k_most = k.most in
    let own = c.args.self.now.potentials.constant_in_range in
    let own_least = own.least in
    let is = c.constant.ensures in
    omega (arith, ints)

pub returns : goal.returns
returns g c =
    let moved = score-moved (g.A.Allowance.allowance (task_in c.args.groundwork.now.ground.now)) (task_in c.args.groundwork.now.ground.now) (atoms_in c.args.groundwork.now.ground.now) (potentials_of c.args.self.now.potentials) c.args.trial.atom c.args.trial.weight c.args.constant c.args.self.now.score c.constant.result c.args.constant _ _
    c.given-before.result c.given-after.result (bits_of c.args.groundwork.now.initial)
    c.requires.within c.requires.climb.width c.requires.climb.score c.constant.ensures refl c.args.groundwork.now.initial_is
    (omega (arith, ints, c.weight-old.ensures.value)) (omega (arith, ints)) c.given-before.ensures.value c.given-after.ensures.value in
    let e = c.exchanged-moved.ensures in
    let f = c.exchanged.ensures in
    omega (arith, ints)
