use Rattle.std.proofs.Common.{rules, set, refl, subst, sym}
use Rattle.std.specs.Prelude.{IfNone}
use Rattle.std.specs.Int.{w64}
use Rattle.std.proofs.lemmas.Int.{to_z-of_z}
use Rattle.std.proofs.lemmas.Bool.{iff_false}
use Rattle.grounding.specs.Ground.{task_in, atoms_in}
use Rattle.lower_bounds.specs.PotentialFunctions.{IsInRange}
use Rattle.lower_bounds.proofs.Settling.{IsNoneBetter}
use Rattle.potentials.specs.Potentials.{potentials_of}
use Rattle.potentials_improved.proofs.ClimbLemmas.{tried-kept}
use Rattle.potentials_improved.proofs.climb.Climb.try_weight.Goals as goal

pub returns-then-not-is_in_range : goal.returns-then-not-is_in_range
returns-then-not-is_in_range g c =
    let ew = to_z-of_z w64 c.args.trial.weight (search rules) in
    tried-kept (g.A.Allowance.allowance (task_in c.args.groundwork.now.ground.now)) (task_in c.args.groundwork.now.ground.now) (atoms_in c.args.groundwork.now.ground.now) c.args.self.now _ c.args.trial.atom c.args.trial.weight c.requires.climb refl refl refl
    (λ fits. absurd (iff_false c.is_in_range.ensures c.if-not-is_in_range.true (subst IsInRange (sym ew) fits)))

pub next-requires-clause-range : goal.next-requires-clause-range
next-requires-clause-range g c = subst IsInRange (to_z-of_z w64 c.args.trial.weight (search rules)) (c.is_in_range.ensures.0 c.if-not-is_in_range.false)

pub take_if_fair-requires-clause-range : goal.take_if_fair-requires-clause-range
take_if_fair-requires-clause-range g c = subst IsInRange (to_z-of_z w64 c.args.trial.weight (search rules)) (c.is_in_range.ensures.0 c.if-not-is_in_range.false)

pub returns-in-None : goal.returns-in-None
returns-in-None g c =
    let t = task_in c.args.groundwork.now.ground.now in
    let a = atoms_in c.args.groundwork.now.ground.now in
    let cl = c.args.self.now in
    tried-kept (g.A.Allowance.allowance t) t a cl _ c.args.trial.atom c.args.trial.weight c.requires.climb refl refl refl
    (λ fits. subst (λ o. IfNone o (IsNoneBetter (g.A.Allowance.allowance t) t a (potentials_of cl.potentials) (set cl.potentials.weights.items c.args.trial.atom c.args.trial.weight))) c.in-None.is c.next.ensures.none)

pub returns-in-Some : goal.returns-in-Some
returns-in-Some g c = c.take_if_fair.ensures
