use Rattle.std.proofs.Common.{length, subst, arith}
use Rattle.grounding.specs.Ground.{task_in, atoms_in}
use Rattle.potentials.specs.Potentials.{potentials_of}
use Rattle.potentials_improved.specs.Climb.{IsPass}
use Rattle.potentials_improved.proofs.ClimbLemmas.{improved-settled, improved-rounds, pass-gained}
use Rattle.potentials_improved.proofs.improve.improved.Goals as goal

pub loop-init : goal.loop-init
loop-init g c =
    let drafted = c.in_ok-drafted.ensures.no_lower in
    let least = c.new-climb.ensures.no_lower in
    record { climb = c.new-climb.ensures.climb; gained = omega arith }

pub pass-requires : goal.pass-requires
pass-requires g c = record { climb = c.loop.invariant.climb }

pub returns-then-not-pass : goal.returns-then-not-pass
returns-then-not-pass g c =
    let t = task_in c.args.groundwork.now.ground.now in
    let a = atoms_in c.args.groundwork.now.ground.now in
    improved-settled (g.A.Allowance.allowance t) t a c.args.rounds c.loop.counter (potentials_of c.args.potentials) c.loop.climb c.pass.new.self c.requires.width c.loop.invariant.gained c.loop.invariant.climb
    (subst (IsPass (g.A.Allowance.allowance t) t a (length a) c.loop.climb c.pass.new.self) c.if-not-pass.true c.pass.ensures)

pub loop-preserved : goal.loop-preserved
loop-preserved g c =
    let t = task_in c.args.groundwork.now.ground.now in
    let a = atoms_in c.args.groundwork.now.ground.now in
    record { climb = c.pass.ensures.climb; gained = pass-gained (g.A.Allowance.allowance t) t a c.loop.counter (potentials_of c.args.potentials) c.loop.climb c.pass.new.self c.loop.invariant.gained (subst (IsPass (g.A.Allowance.allowance t) t a (length a) c.loop.climb c.pass.new.self) c.if-not-pass.false c.pass.ensures) }

pub returns : goal.returns
returns g c =
    let past = c.loop-test.false in
    improved-rounds (g.A.Allowance.allowance (task_in c.args.groundwork.now.ground.now)) (task_in c.args.groundwork.now.ground.now) (atoms_in c.args.groundwork.now.ground.now) c.args.rounds c.loop.counter (potentials_of c.args.potentials) c.loop.climb c.requires.width (omega arith) c.loop.invariant.gained c.loop.invariant.climb
