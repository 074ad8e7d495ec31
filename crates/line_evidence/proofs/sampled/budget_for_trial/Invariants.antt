use Rattle.std.proofs.Common.{◌≡◌, length}
use Rattle.grounding.specs.Ground.{atoms_in}
use Rattle.packed_state.specs.Packed.{bits_of}
use Rattle.line_evidence.proofs.sampled.budget_for_trial.Given as goal

-- the state stays one of the ground task
abbrev pub invariant-loop-place : goal.invariant-loop-place
invariant-loop-place g l = record {
  state : length (bits_of l.state) ≡ length (atoms_in l.ground);
}
