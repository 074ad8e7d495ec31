use Rattle.std.proofs.Common.{◌≡◌, take, length}
use Rattle.packed_state.specs.Packed.{bits_of}
use Rattle.packed_state.specs.PooledView.{pooled_states, pooled_width}
use Rattle.solver.proofs.listing.copied_sets.Given as goal

-- the states so far
abbrev pub invariant-loop-place : goal.invariant-loop-place
invariant-loop-place g l = record {
  sets : pooled_states l.sets ≡ take l.place (g.L.StateListing.states l.listing);
  width : pooled_width l.sets ≡ g.L.StateListing.width_of l.listing;
  state : length (bits_of l.state) ≡ g.L.StateListing.width_of l.listing;
}
