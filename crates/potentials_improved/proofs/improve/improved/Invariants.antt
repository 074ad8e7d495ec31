use Rattle.std.proofs.Common.{◌+◌, ◌≤◌}
use Rattle.grounding.specs.Ground.{task_in, atoms_in}
use Rattle.lower_bounds.specs.Settled.{initial_value}
use Rattle.potentials.specs.Potentials.{potentials_of}
use Rattle.potentials_improved.specs.Climb.{IsClimb, worth}
use Rattle.potentials_improved.proofs.improve.improved.Given as goal

abbrev pub invariant-loop : goal.invariant-loop
invariant-loop g l = record {
  climb : IsClimb (g.A.Allowance.allowance (task_in l.groundwork.ground.now)) (task_in l.groundwork.ground.now) (atoms_in l.groundwork.ground.now) l.climb;
  gained : initial_value (task_in l.groundwork.ground.now) (atoms_in l.groundwork.ground.now) (potentials_of l.fn.potentials) + l.counter ≤ worth (task_in l.groundwork.ground.now) (atoms_in l.groundwork.ground.now) l.climb;
}
