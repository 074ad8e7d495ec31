use Rattle.std.proofs.Common.{length}
use Rattle.packed_state.specs.Packed.{bits_of}
use Rattle.grounding.specs.Ground.{atoms_in, task_in}
use Rattle.model.specs.StaticallyFalse.{kept_instances}
use Rattle.explain_goals.specs.Settled.{AreSettledBelow, lacking}
use Rattle.explain_goals.proofs.GrownLemmas.{IsTowards}
use Rattle.explain_goals.proofs.reached.settle.Given as goal

abbrev pub invariant-rounds : goal.invariant-rounds
invariant-rounds l = IsTowards (AreSettledBelow (task_in l.ground) (atoms_in l.ground) (length (kept_instances (task_in l.ground)))) (bits_of l.initial.set) (bits_of l.set)

-- each round adds something
abbrev pub decreases-rounds : goal.decreases-rounds
decreases-rounds l = lacking (bits_of l.set)
