use Rattle.grounding.specs.Ground.{task_in, atoms_in}
use Rattle.potentials_improved.specs.Climb.{IsPass}
use Rattle.potentials_improved.proofs.climb.Climb.pass.Given as goal

abbrev pub invariant-loop-atom : goal.invariant-loop-atom
invariant-loop-atom g l = IsPass (g.A.Allowance.allowance (task_in l.groundwork.ground.now)) (task_in l.groundwork.ground.now) (atoms_in l.groundwork.ground.now) l.atom l.initial.self l.self l.raised
