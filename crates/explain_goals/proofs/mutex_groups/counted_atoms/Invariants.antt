use Rattle.formulas.specs.State.{state_of}
use Rattle.grounding.specs.Ground.{atoms_in}
use Rattle.potentials.specs.Potentials.{potentials_of}
use Rattle.explain_goals.specs.MutexGroups.{AreCounted}
use Rattle.explain_goals.proofs.mutex_groups.counted_atoms.Given as goal

-- each atom so far is counted
abbrev pub invariant-numbers : goal.invariant-numbers
invariant-numbers l = AreCounted (atoms_in l.ground) (potentials_of l.counter) (state_of l.group)
