use Rattle.grounding.specs.Ground.{task_in, atoms_in}
use Rattle.lower_bounds.specs.FairPotentials.{nothing}
use Rattle.potentials.specs.Potentials.{potentials_of}
use Rattle.potentials_improved.specs.Drafted.{IsNoWorseAt}
use Rattle.potentials_improved.proofs.dead_ends.DeadEndsDrafts.drafted.Given as goal

abbrev pub invariant-loop : goal.invariant-loop
invariant-loop l = IsNoWorseAt nothing (task_in l.groundwork.ground.now) (atoms_in l.groundwork.ground.now) (potentials_of l.fn.potentials) (potentials_of l.best)
