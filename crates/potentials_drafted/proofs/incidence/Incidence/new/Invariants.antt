use Rattle.grounding.specs.Ground.{task_in, atoms_in}
use Rattle.potentials_drafted.specs.Incidence.{IsIncidence}
use Rattle.potentials_drafted.proofs.incidence.Incidence.new.Given as goal

abbrev pub invariant-loop-number : goal.invariant-loop-number
invariant-loop-number l = IsIncidence (task_in l.ground) (atoms_in l.ground) l.number l.incidence
