use Rattle.grounding.specs.Ground.{task_in, atoms_in}
use Rattle.potentials_improved.proofs.ClimbLemmas.{pass-none, pass-step}
use Rattle.potentials_improved.proofs.climb.Climb.pass.Goals as goal

pub loop-atom-init : goal.loop-atom-init
loop-atom-init g c = pass-none (g.A.Allowance.allowance (task_in c.args.groundwork.now.ground.now)) (task_in c.args.groundwork.now.ground.now) (atoms_in c.args.groundwork.now.ground.now) c.args.self.now c.requires.climb

pub loop-atom-preserved : goal.loop-atom-preserved
loop-atom-preserved g c =
    let t = task_in c.args.groundwork.now.ground.now in
    let a = atoms_in c.args.groundwork.now.ground.now in
    pass-step (g.A.Allowance.allowance t) t a c.loop-atom.atom c.args.self.now c.loop-atom.self c.try_atom-better.new.self c.loop-atom.raised c.try_atom-better.result c.loop-atom.invariant c.try_atom-better.ensures
