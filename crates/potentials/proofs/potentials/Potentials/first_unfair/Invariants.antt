use Rattle.grounding.specs.Ground.{task_in, atoms_in}
use Rattle.potentials.specs.Fairness.{allowed_by}
use Rattle.potentials.specs.Potentials.{potentials_of}
use Rattle.potentials.proofs.FairLemmas.{AreFairBelow}
use Rattle.potentials.proofs.potentials.Potentials.first_unfair.Given as goal

abbrev pub invariant-loop-number : goal.invariant-loop-number
invariant-loop-number l = AreFairBelow (task_in l.ground) (atoms_in l.ground) (potentials_of l.self) (allowed_by l.allowance (task_in l.ground)) l.number
