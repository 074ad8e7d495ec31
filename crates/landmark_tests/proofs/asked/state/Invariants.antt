use Rattle.std.proofs.Common.{◌≡◌, length}
use Rattle.grounding.specs.Ground.{atoms_in}
use Rattle.packed_state.specs.Packed.{bits_of}
use Rattle.landmark_tests.proofs.asked.state.Given as goal

-- the state has the task's width
abbrev pub invariant-loop-number : goal.invariant-loop-number
invariant-loop-number l = length (bits_of l.state) ≡ length (atoms_in l.ground)
