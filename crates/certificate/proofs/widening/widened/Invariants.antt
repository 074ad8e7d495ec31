-- the sets so far are there with the new width, and each is as wide as the store
use Rattle.std.proofs.Common.{◌≡◌, map, take, length}
use Rattle.std.specs.Prelude.{All, Bool, List}
use Rattle.packed_state.specs.Packed.{bits_of}
use Rattle.packed_state.specs.PooledView.{pooled_states, pooled_width}
use Rattle.packed_state.specs.Sets.{at_width}
use Rattle.certificate.proofs.widening.widened.Given as goal

abbrev pub invariant-loop-place : goal.invariant-loop-place
invariant-loop-place l = record {
  wide : pooled_width l.wide ≡ l.width;
  sets : pooled_states l.wide ≡ map (at_width l.width) (take l.place (pooled_states l.sets));
  set : length (bits_of l.set) ≡ pooled_width l.sets;
  lengths : All (λ (set : List Bool). length set ≡ pooled_width l.sets) (take l.place (pooled_states l.sets));
}
