use Rattle.formulas.specs.State.{state_of}
use Rattle.grounding.specs.Ground.{atoms_in}
use Rattle.potentials.specs.Potentials.{potentials_of}
use Rattle.explain_goals.proofs.MutexLemmas.{counted-none}
use Rattle.explain_goals.proofs.mutex_groups.counted_atoms.Goals as goal

pub numbers-init : goal.numbers-init
numbers-init c = counted-none (atoms_in c.args.ground.now) (potentials_of c.args.counter.now) (state_of c.new-group.result) c.new-group.ensures
