use Rattle.std.proofs.Common.{◌∙◌, length, map, subst, sym, ap, arith}
use Rattle.std.specs.Prelude.{All}
use Rattle.std.proofs.lemmas.Int.{ints}
use Rattle.grounding.specs.Ground.{task_in, atoms_in}
use Rattle.lower_bounds.specs.PotentialFunctions.{IsInRange}
use Rattle.potentials.specs.Potentials.{potentials_of}
use Rattle.grounding.specs.Views.{numbered_of}
use Rattle.potentials.specs.Goals.{AreSaid}
use Rattle.potentials.proofs.GroundLemmas.{few-atoms}
use Rattle.potentials.proofs.FairLemmas.{goal-is, decides-goals}
use Rattle.potentials.proofs.potentials.Potentials.is_fair_at_goals.Goals as goal

pub give_at_most-given-requires-clause-range : goal.give_at_most-given-requires-clause-range
give_at_most-given-requires-clause-range c = subst (All IsInRange) (sym c.weights.ensures) c.args.self.now.weights_in_range

pub give_at_most-given-requires-clause-few : goal.give_at_most-given-requires-clause-few
give_at_most-given-requires-clause-few c = omega (arith, ap length c.weights.ensures, c.requires, few-atoms c.args.ground.now)

pub overflow_add-sum : goal.overflow_add-sum
overflow_add-sum c =
    let few = few-atoms c.args.ground.now in
    let long = ap length c.weights.ensures in
    let least = c.give_at_most-given.ensures.least in
    let most = c.give_at_most-given.ensures.most in
    let constant = c.args.self.now.constant_in_range in
    let constant_least = constant.least in
    let constant_most = constant.most in
    let is = c.constant.ensures in
    omega (arith, ints)

pub returns : goal.returns
returns c =
    let few = few-atoms c.args.ground.now in
    let long = ap length c.weights.ensures in
    let least = c.give_at_most-given.ensures.least in
    let most = c.give_at_most-given.ensures.most in
    let constant = c.args.self.now.constant_in_range in
    let constant_least = constant.least in
    let constant_most = constant.most in
    let is = c.constant.ensures in
    decides-goals (task_in c.args.ground.now) (atoms_in c.args.ground.now) (potentials_of c.args.self.now) c.weights.result.now c.weights.ensures c.requires
    c.constant.result c.give_at_most-given.result _ c.is_at_most.result c.constant.ensures
    (goal-is (task_in c.args.ground.now) (atoms_in c.args.ground.now) (potentials_of c.args.self.now) c.weights.result.now c.weights.ensures c.requires _ c.give_at_most-given.result c.goal_literals.ensures
    (c.give_at_most-given.ensures.value (map numbered_of c.goal_literals.result.now) (subst (λ n. AreSaid (map numbered_of c.goal_literals.result.now) n c.in_ok-goal.goal) (c.width.ensures ∙ sym (long ∙ c.requires)) c.in_ok-goal.ensures)))
    (omega (arith, ints)) c.is_at_most.ensures
