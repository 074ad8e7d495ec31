use Rattle.packed_state.specs.Packed.{bits_of}
use Rattle.grounding.specs.Ground.{atoms_in, task_in}
use Rattle.explain_goals.specs.Settled.{AreSettledBelow, IsGrown}
use Rattle.explain_goals.proofs.reached.add_all.Given as goal

-- the instances so far add no more
abbrev pub invariant-loop-number : goal.invariant-loop-number
invariant-loop-number l = IsGrown (AreSettledBelow (task_in l.ground) (atoms_in l.ground) l.number) (bits_of l.initial.set) (bits_of l.set) l.grew
