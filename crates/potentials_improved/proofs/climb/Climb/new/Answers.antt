use Rattle.std.proofs.Common.{refl, ◌∙◌, rules, length, subst, sym, ap, arith}
use Rattle.std.specs.Prelude.{All}
use Rattle.std.specs.Int.{w64}
use Rattle.std.proofs.lemmas.Int.{ints, to_z-of_z}
use Rattle.grounding.specs.Ground.{task_in, atoms_in}
use Rattle.lower_bounds.specs.PotentialFunctions.{PotentialFunction, score, IsInRange}
use Rattle.lower_bounds.proofs.Settling.{potentials}
use Rattle.potentials.specs.Potentials.{potentials_of}
use Rattle.potentials.proofs.GroundLemmas.{few-atoms}
use Rattle.potentials_improved.proofs.ClimbLemmas.{goal-given, initial-long, climb-made, climb-no_lower}
use Rattle.potentials_improved.proofs.climb.Climb.new.Goals as goal

pub give_at_most-goal-requires-clause-range : goal.give_at_most-goal-requires-clause-range
give_at_most-goal-requires-clause-range g c = subst (All IsInRange) (sym c.weights.ensures) c.args.potentials.weights_in_range

pub give_at_most-goal-requires-clause-few : goal.give_at_most-goal-requires-clause-few
give_at_most-goal-requires-clause-few g c = omega (arith, ap length c.weights.ensures, c.requires.width, few-atoms c.args.groundwork.now.ground.now)

pub greatest_constant-constant-requires : goal.greatest_constant-constant-requires
greatest_constant-constant-requires g c =
    let sums = goal-given (g.A.Allowance.allowance (task_in c.args.groundwork.now.ground.now)) (task_in c.args.groundwork.now.ground.now) (atoms_in c.args.groundwork.now.ground.now) (potentials_of c.args.potentials) c.weights.result.now c.args.groundwork.now.goal c.give_at_most-goal.result c.weights.ensures c.requires.width c.args.groundwork.now.goal_is c.give_at_most-goal.ensures.value in
    let within = c.requires.fair.goals.within in
    let range = c.args.potentials.constant_in_range in
    let least = range.least in
    omega (arith, ints)

pub score-score-requires : goal.score-score-requires
score-score-requires g c =
    let t = task_in c.args.groundwork.now.ground.now in
    let a = atoms_in c.args.groundwork.now.ground.now in
    ap length c.args.groundwork.now.initial_is ∙ initial-long (g.A.Allowance.allowance t) t a ∙ sym c.requires.width ∙ sym (ap (λ (q : PotentialFunction). length q.weights) c.set_constant.ensures)

pub returns-clause-climb : goal.returns-clause-climb
returns-clause-climb g c =
    let t = task_in c.args.groundwork.now.ground.now in
    let a = atoms_in c.args.groundwork.now.ground.now in
    let sums = goal-given (g.A.Allowance.allowance t) t a (potentials_of c.args.potentials) c.weights.result.now c.args.groundwork.now.goal c.give_at_most-goal.result c.weights.ensures c.requires.width c.args.groundwork.now.goal_is c.give_at_most-goal.ensures.value in
    let is = to_z-of_z w64 c.give_at_most-goal.result (search rules) in
    let constant = c.greatest_constant-constant.ensures in
    climb-made (g.A.Allowance.allowance t) t a _ (potentials_of c.args.potentials) c.greatest_constant-constant.result _ c.requires.fair (is ∙ sums) constant.greatest
    (c.set_constant.ensures ∙ ap (λ k. potentials k c.args.potentials.weights.items) (to_z-of_z w64 c.greatest_constant-constant.result (search rules)))
    c.requires.width constant.meets refl
    (to_z-of_z w64 c.score-score.result (search rules) ∙ c.score-score.ensures ∙ ap (score (potentials_of c.set_constant.new.self)) c.args.groundwork.now.initial_is)

pub returns-clause-no_lower : goal.returns-clause-no_lower
returns-clause-no_lower g c =
    let t = task_in c.args.groundwork.now.ground.now in
    let a = atoms_in c.args.groundwork.now.ground.now in
    let sums = goal-given (g.A.Allowance.allowance t) t a (potentials_of c.args.potentials) c.weights.result.now c.args.groundwork.now.goal c.give_at_most-goal.result c.weights.ensures c.requires.width c.args.groundwork.now.goal_is c.give_at_most-goal.ensures.value in
    let is = to_z-of_z w64 c.give_at_most-goal.result (search rules) in
    let constant = c.greatest_constant-constant.ensures in
    climb-no_lower (g.A.Allowance.allowance t) t a (potentials_of c.args.potentials) (potentials_of c.set_constant.new.self) c.greatest_constant-constant.result _ c.requires.fair (is ∙ sums) constant.greatest
    (c.set_constant.ensures ∙ ap (λ k. potentials k c.args.potentials.weights.items) (to_z-of_z w64 c.greatest_constant-constant.result (search rules)))
    c.args.potentials.constant_in_range
