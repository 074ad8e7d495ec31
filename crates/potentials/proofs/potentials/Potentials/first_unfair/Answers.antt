use Rattle.std.proofs.Common.{arith}
use Rattle.grounding.specs.Ground.{task_in, atoms_in}
use Rattle.potentials.specs.Fairness.{allowed_by}
use Rattle.potentials.specs.Potentials.{potentials_of}
use Rattle.potentials.proofs.FairLemmas.{fair-next, fair-all, first-unfair}
use Rattle.potentials.proofs.potentials.Potentials.first_unfair.Goals as goal

pub loop-number-preserved : goal.loop-number-preserved
loop-number-preserved c =
    fair-next (task_in c.args.ground.now) (atoms_in c.args.ground.now) (potentials_of c.args.self.now) (allowed_by c.args.allowance (task_in c.args.ground.now)) c.loop-number.number c.is_fair_within.result c.is_fair_within.ensures c.if-not-is_fair_within.false c.loop-number.invariant

pub returns-then-not-is_fair_within : goal.returns-then-not-is_fair_within
returns-then-not-is_fair_within c =
    first-unfair (task_in c.args.ground.now) (atoms_in c.args.ground.now) (potentials_of c.args.self.now) (allowed_by c.args.allowance (task_in c.args.ground.now)) c.loop-number.number c.is_fair_within.result
    (omega (arith, c.instance_count-number-end.ensures)) c.is_fair_within.ensures c.if-not-is_fair_within.true c.loop-number.invariant

pub returns : goal.returns
returns c =
    fair-all (task_in c.args.ground.now) (atoms_in c.args.ground.now) (potentials_of c.args.self.now) (allowed_by c.args.allowance (task_in c.args.ground.now)) c.loop-number.number (omega (arith, c.instance_count-number-end.ensures)) c.loop-number.invariant
