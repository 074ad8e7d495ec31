use Rattle.formulas.specs.State.{state_of}
use Rattle.grounding.specs.Ground.{atoms_in, task_in}
use Rattle.potentials.specs.Potentials.{potentials_of}
use Rattle.potentials.proofs.GroundLemmas.{numberable}
use Rattle.explain_goals.proofs.MutexLemmas.{counted-mutex}
use Rattle.explain_goals.proofs.mutex_groups.mutex_group.Goals as goal

pub returns : goal.returns
returns c =
    let g = c.args.ground.now in
    counted-mutex (task_in g) (atoms_in g) (potentials_of c.in_ok-counter.counter) (state_of c.in_ok-counted_atoms.field-0) (numberable g) c.in_ok-counter.ensures
    (c.in_ok-stays_above_zero.ensures c.if-not-branch.false) c.in_ok-counted_atoms.ensures
