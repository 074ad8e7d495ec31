use Rattle.std.proofs.Common.{◌≡◌, ◌∙◌, rules, length, set, refl, ap, arith, to_z, of_z}
use Rattle.std.specs.Int.{w64}
use Rattle.std.proofs.lemmas.Int.{ints, to_z-of_z}
use Rattle.grounding.specs.Ground.{task_in, atoms_in}
use Rattle.model.specs.NumberedLiterals.{literals_of_goal}
use Rattle.model.specs.Grounding.{ground_system}
use Rattle.lower_bounds.specs.PotentialFunctions.{score, or_zero}
use Rattle.lower_bounds.specs.FairPotentials.{goal_gives_at_most}
use Rattle.lower_bounds.proofs.Settling.{potentials}
use Rattle.potentials.specs.Potentials.{potentials_of}
use Rattle.potentials.proofs.GroundLemmas.{few-atoms}
use Rattle.potentials_improved.proofs.ClimbLemmas.{none-too_high, next-none, next-some, score-range}
use Rattle.potentials_improved.proofs.climb.Climb.next.Goals.{After-moved_goal-goal, After-moved_score-score}
use Rattle.potentials_improved.proofs.climb.Climb.next.Given.{Over}
use Rattle.potentials_improved.proofs.climb.Climb.next.Goals as goal

-- the sums after the move, by the weight itself
goal_after : (g : Over) (c : After-moved_goal-goal g) → c.moved_goal-goal.result ≡ goal_gives_at_most (length (atoms_in c.args.groundwork.now.ground.now)) (set c.args.self.now.potentials.weights.items c.args.trial.atom c.args.trial.weight) (literals_of_goal (task_in c.args.groundwork.now.ground.now) (atoms_in c.args.groundwork.now.ground.now))
goal_after g c = c.moved_goal-goal.ensures

score_after : (g : Over) (c : After-moved_score-score g) → c.moved_score-score.result
    ≡ score (potentials c.greatest_constant-constant.result (set c.args.self.now.potentials.weights.items c.args.trial.atom c.args.trial.weight)) (ground_system (task_in c.args.groundwork.now.ground.now) (atoms_in c.args.groundwork.now.ground.now)).initial
score_after g c =
    let cl = c.args.self.now in
    let initial = (ground_system (task_in c.args.groundwork.now.ground.now) (atoms_in c.args.groundwork.now.ground.now)).initial in
    c.moved_score-score.ensures
    ∙ ap (λ z. score (potentials z (set cl.potentials.weights.items c.args.trial.atom c.args.trial.weight)) initial) (to_z-of_z w64 c.greatest_constant-constant.result (search rules))

-- the score so far is a number of its width
score_fits : (g : Over) (c : After-moved_goal-goal g) → to_z w64 (of_z w64 c.args.self.now.score) ≡ c.args.self.now.score
score_fits g c =
    let range = score-range (g.A.Allowance.allowance (task_in c.args.groundwork.now.ground.now)) (task_in c.args.groundwork.now.ground.now) (atoms_in c.args.groundwork.now.ground.now) c.args.self.now c.requires.climb (few-atoms c.args.groundwork.now.ground.now) in
    let low = range.0 in
    let high = range.1 in
    omega (arith, ints)

pub returns-then-goal-gt-MAX_WEIGHT-clause-none : goal.returns-then-goal-gt-MAX_WEIGHT-clause-none
returns-then-goal-gt-MAX_WEIGHT-clause-none g c =
    let t = task_in c.args.groundwork.now.ground.now in
    let a = atoms_in c.args.groundwork.now.ground.now in
    let cl = c.args.self.now in
    let sums = goal_after g (goal.at.returns-then-goal-gt-MAX_WEIGHT-clause-none g c).After-moved_goal-goal in
    let is = to_z-of_z w64 c.moved_goal-goal.result (search rules) in
    let high = c.if-goal-gt-MAX_WEIGHT.true in
    none-too_high (g.A.Allowance.allowance t) t a (potentials_of cl.potentials) (set cl.potentials.weights.items c.args.trial.atom c.args.trial.weight) (omega (arith, ints))

pub returns-then-or_zero-clause-none : goal.returns-then-or_zero-clause-none
returns-then-or_zero-clause-none g c =
    let t = task_in c.args.groundwork.now.ground.now in
    let a = atoms_in c.args.groundwork.now.ground.now in
    let cl = c.args.self.now in
    let at = goal.at.returns-then-or_zero-clause-none g c in
    next-none (g.A.Allowance.allowance t) t a cl c.args.trial.atom c.args.trial.weight _ c.greatest_constant-constant.result c.moved_score-score.result c.or_zero.result c.or_zero-2.result c.requires.climb
    (to_z-of_z w64 c.moved_goal-goal.result (search rules) ∙ goal_after g at.After-moved_goal-goal) c.greatest_constant-constant.ensures.greatest (score_after g at.After-moved_score-score)
    (c.or_zero.ensures ∙ ap or_zero (to_z-of_z w64 c.moved_score-score.result (search rules))) (c.or_zero-2.ensures ∙ ap or_zero (score_fits g at.After-moved_goal-goal)) c.if-or_zero.true

pub returns-clause-some : goal.returns-clause-some
returns-clause-some g c =
    let t = task_in c.args.groundwork.now.ground.now in
    let a = atoms_in c.args.groundwork.now.ground.now in
    let cl = c.args.self.now in
    let at = goal.at.returns-clause-some g c in
    let goal_is = to_z-of_z w64 c.moved_goal-goal.result (search rules) in
    next-some (g.A.Allowance.allowance t) t a cl c.args.trial.atom c.args.trial.weight _ c.greatest_constant-constant.result c.moved_score-score.result c.or_zero.result c.or_zero-2.result _ c.requires.climb
    (goal_is ∙ goal_after g at.After-moved_goal-goal) c.greatest_constant-constant.ensures.range c.greatest_constant-constant.ensures.meets c.greatest_constant-constant.ensures.greatest (score_after g at.After-moved_score-score)
    (c.or_zero.ensures ∙ ap or_zero (to_z-of_z w64 c.moved_score-score.result (search rules))) (c.or_zero-2.ensures ∙ ap or_zero (score_fits g at.After-moved_goal-goal)) c.if-or_zero.false
    (to_z-of_z w64 c.greatest_constant-constant.result (search rules)) refl (to_z-of_z w64 c.moved_score-score.result (search rules))
