use Rattle.std.proofs.Common.{length}
use Rattle.grounding.specs.Ground.{atoms_in}
use Rattle.potentials.specs.Potentials.{potentials_of}
use Rattle.explain_goals.specs.MutexGroups.{IsCounter}
use Rattle.explain_goals.proofs.mutex_groups.counter_of.Given as goal

abbrev pub invariant-numbers : goal.invariant-numbers
invariant-numbers l = IsCounter (length (atoms_in l.ground)) (potentials_of l.counter)
