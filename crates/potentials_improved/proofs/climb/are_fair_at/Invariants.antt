use Rattle.std.proofs.Common.{map, take}
use Rattle.grounding.specs.Ground.{task_in, atoms_in}
use Rattle.potentials.specs.Potentials.{potentials_of}
use Rattle.potentials_drafted.specs.Incidence.{number_of}
use Rattle.potentials_improved.specs.Climb.{AreFairAmong}
use Rattle.potentials_improved.proofs.climb.are_fair_at.Given as goal

abbrev pub invariant-loop-place : goal.invariant-loop-place
invariant-loop-place g l = AreFairAmong (g.A.Allowance.allowance (task_in l.ground)) (task_in l.ground) (atoms_in l.ground) (potentials_of l.potentials) (take l.place (map number_of l.instances))
