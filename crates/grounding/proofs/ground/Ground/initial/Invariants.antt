use Rattle.model.specs.Grounding.{ground_system}
use Rattle.packed_state.specs.Packed.{bits_of}
use Rattle.grounding.specs.Ground.{task_in, atoms_in}
use Rattle.grounding.proofs.InitialBits.{AreBegun}
use Rattle.grounding.proofs.ground.Ground.initial.Given as goal

abbrev pub invariant-loop-number : goal.invariant-loop-number
invariant-loop-number l = AreBegun ((ground_system (task_in l.self) (atoms_in l.self)).initial) (bits_of l.state) l.number
