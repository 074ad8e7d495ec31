use Rattle.std.proofs.Common.{length, rules, subst, sym, ap, arith}
use Rattle.std.specs.Int.{w64}
use Rattle.std.proofs.lemmas.Int.{to_z-of_z}
use Rattle.std.specs.Prelude.{All}
use Rattle.grounding.specs.Ground.{task_in, atoms_in}
use Rattle.lower_bounds.specs.PotentialFunctions.{IsInRange}
use Rattle.potentials.specs.Fairness.{allowed_by}
use Rattle.potentials.specs.Potentials.{potentials_of}
use Rattle.potentials.proofs.GroundLemmas.{few-atoms}
use Rattle.potentials.proofs.FairLemmas.{below-counting, decides-fair}
use Rattle.potentials.proofs.potentials.Potentials.is_fair_within.Goals as goal

pub loses_at_most-losses-requires-clause-range : goal.loses_at_most-losses-requires-clause-range
loses_at_most-losses-requires-clause-range c = subst (All IsInRange) (sym c.weights.ensures) c.args.self.now.weights_in_range

pub loses_at_most-losses-requires-clause-few : goal.loses_at_most-losses-requires-clause-few
loses_at_most-losses-requires-clause-few c = omega (arith, ap length c.weights.ensures, c.requires.width, few-atoms c.args.ground.now)

pub loses_at_most-losses-requires-clause-below : goal.loses_at_most-losses-requires-clause-below
loses_at_most-losses-requires-clause-below c =
    below-counting (task_in c.args.ground.now) (atoms_in c.args.ground.now) (potentials_of c.args.self.now) c.weights.result.now c.weights.ensures c.requires.width c.args.number _ c.counting.ensures.counting

pub returns : goal.returns
returns c =
    decides-fair (task_in c.args.ground.now) (atoms_in c.args.ground.now) (potentials_of c.args.self.now) (allowed_by c.args.allowance (task_in c.args.ground.now)) c.weights.result.now c.weights.ensures c.requires.width c.args.number _ _ c.loses_at_most-losses.result _ _ _
    c.literals.ensures c.counting.ensures.counting c.loses_at_most-losses.ensures c.of.ensures (to_z-of_z w64 c.loses_at_most-losses.result (search rules)) c.is_at_most.ensures
