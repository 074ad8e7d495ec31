use Rattle.std.proofs.Common.{◌≡◌, ◌∙◌, rules, length, map, set, refl, sym, subst, ap, arith}
use Rattle.std.specs.Int.{w64}
use Rattle.std.proofs.lemmas.Int.{to_z-of_z}
use Rattle.std.proofs.lemmas.Bool.{iff_false}
use Rattle.grounding.specs.Ground.{task_in, atoms_in}
use Rattle.model.specs.StaticallyFalse.{kept_instances}
use Rattle.lower_bounds.specs.PotentialFunctions.{PotentialFunction}
use Rattle.lower_bounds.proofs.Settling.{potentials}
use Rattle.potentials.specs.Potentials.{potentials_of}
use Rattle.potentials_drafted.specs.Incidence.{number_of, row_of, IsIncidence}
use Rattle.potentials_improved.specs.Climb.{AreFairAmong}
use Rattle.potentials_improved.proofs.TestedLemmas.{untested}
use Rattle.potentials_improved.proofs.ClimbLemmas.{back-again, set-long, tried-kept, tried-raised}
use Rattle.potentials_improved.proofs.FairAtLemmas.{fair-by_incidence, none-unfair_among, row-below}
use Rattle.potentials_improved.proofs.climb.Climb.take_if_fair.Goals as goal

pub weight-old-requires : goal.weight-old-requires
weight-old-requires g c = omega (arith, c.requires.within, c.requires.climb.width)

pub set_weight-requires-clause-within : goal.set_weight-requires-clause-within
set_weight-requires-clause-within g c = omega (arith, c.requires.within, c.requires.climb.width)

pub are_fair_at-requires-clause-width : goal.are_fair_at-requires-clause-width
are_fair_at-requires-clause-width g c = set-long (potentials_of c.args.self.now.potentials) (potentials_of c.set_weight.new.self) c.args.trial.atom _ _ c.set_weight.ensures ∙ c.requires.climb.width

pub are_fair_at-requires-clause-within : goal.are_fair_at-requires-clause-within
are_fair_at-requires-clause-within g c =
    let t = task_in c.args.groundwork.now.ground.now in
    let a = atoms_in c.args.groundwork.now.ground.now in
    let incidence : IsIncidence t a (length (kept_instances t)) c.incidence.result.now
    = subst (IsIncidence t a (length (kept_instances t))) (sym c.incidence.ensures) (untested t a (length (kept_instances t)) c.args.groundwork.now.input.incidence c.args.groundwork.now.incidence) in
    row-below t a c.incidence.result.now c.args.trial.atom (map number_of c.of-touching.result.now) incidence (ap (map number_of) c.of-touching.ensures)

pub set_weight-requires-then-not-are_fair_at-clause-within : goal.set_weight-requires-then-not-are_fair_at-clause-within
set_weight-requires-then-not-are_fair_at-clause-within g c =
    omega (arith, c.requires.within, c.requires.climb.width, set-long (potentials_of c.args.self.now.potentials) (potentials_of c.set_weight.new.self) c.args.trial.atom _ _ c.set_weight.ensures)

pub returns-then-not-are_fair_at : goal.returns-then-not-are_fair_at
returns-then-not-are_fair_at g c =
    let t = task_in c.args.groundwork.now.ground.now in
    let a = atoms_in c.args.groundwork.now.ground.now in
    let old = c.args.self.now in
    let ew = to_z-of_z w64 c.args.trial.weight (search rules) in
    let there : potentials_of c.set_weight.new.self ≡ potentials old.potentials.constant (set old.potentials.weights.items c.args.trial.atom c.args.trial.weight)
    = c.set_weight.ensures ∙ ap (λ w. potentials old.potentials.constant (set old.potentials.weights.items c.args.trial.atom w)) ew in
    tried-kept (g.A.Allowance.allowance t) t a old _ c.args.trial.atom c.args.trial.weight c.requires.climb
    (back-again (potentials_of old.potentials) _ _ c.args.trial.atom c.args.trial.weight _ (to_z-of_z w64 c.weight-old.result (search rules) ∙ c.weight-old.ensures.value) there c.set_weight-then-not-are_fair_at.ensures)
    refl refl
    (λ fits. none-unfair_among (g.A.Allowance.allowance t) t a (potentials_of old.potentials) (potentials_of c.set_weight.new.self) old.potentials.constant (set old.potentials.weights.items c.args.trial.atom c.args.trial.weight) (map number_of c.of-touching.result.now) there
    (iff_false c.are_fair_at.ensures c.if-not-are_fair_at.true))

pub returns : goal.returns
returns g c =
    let t = task_in c.args.groundwork.now.ground.now in
    let a = atoms_in c.args.groundwork.now.ground.now in
    let incidence : IsIncidence t a (length (kept_instances t)) c.incidence.result.now
    = subst (IsIncidence t a (length (kept_instances t))) (sym c.incidence.ensures) (untested t a (length (kept_instances t)) c.args.groundwork.now.input.incidence c.args.groundwork.now.incidence) in
    let old = c.args.self.now in
    let n = c.args.next in
    let ew = to_z-of_z w64 c.args.trial.weight (search rules) in
    let there : potentials_of c.set_weight.new.self ≡ potentials old.potentials.constant (set old.potentials.weights.items c.args.trial.atom c.args.trial.weight)
    = c.set_weight.ensures ∙ ap (λ w. potentials old.potentials.constant (set old.potentials.weights.items c.args.trial.atom w)) ew in
    let fair : AreFairAmong (g.A.Allowance.allowance t) t a (potentials_of c.set_weight.new.self) (row_of c.incidence.result.now c.args.trial.atom)
    = subst (AreFairAmong (g.A.Allowance.allowance t) t a (potentials_of c.set_weight.new.self)) (ap (map number_of) c.of-touching.ensures) (c.are_fair_at.ensures.0 c.if-not-are_fair_at.false) in
    tried-raised (g.A.Allowance.allowance t) t a old _ n c.args.trial.atom c.args.trial.weight c.requires.climb c.requires.next
    (fair-by_incidence (g.A.Allowance.allowance t) t a (potentials_of old.potentials) (potentials_of c.set_weight.new.self) old.potentials.constant c.args.trial.atom c.args.trial.weight c.incidence.result.now incidence c.requires.climb.fair.instances there fair)
    (c.set_constant.ensures ∙ ap (λ k. potentials k (potentials_of c.set_weight.new.self).weights) (to_z-of_z w64 n.constant (search rules))
    ∙ ap (λ (q : PotentialFunction). potentials n.constant q.weights) there)
    (to_z-of_z w64 n.goal (search rules)) (to_z-of_z w64 n.score (search rules))
