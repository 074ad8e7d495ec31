use Rattle.std.specs.Prelude.{◌≡◌, length}
use Rattle.packed_state.specs.Packed.{bits_of}
use Rattle.grounding.specs.Ground.{atoms_in}
use Rattle.solver_tests.proofs.ground_tasks.state.Given as goal

abbrev pub invariant-loop-number : goal.invariant-loop-number
invariant-loop-number l = length (bits_of l.state) ≡ length (atoms_in l.ground)
