use Rattle.std.proofs.Common.{◌≡◌, length}
use Rattle.grounding.specs.Ground.{atoms_in}
use Rattle.packed_state.specs.Packed.{bits_of}
use Rattle.landmarks_drafted.specs.Drafts.{atom_count_of}
use Rattle.line_evidence.proofs.sampled.pays.Given as goal

-- the state and the drafter stay those of the ground task
abbrev pub invariant-loop-place : goal.invariant-loop-place
invariant-loop-place g l = record {
  state : length (bits_of l.state) ≡ length (atoms_in l.ground);
  drafter : atom_count_of l.drafter ≡ length (atoms_in l.ground);
}
