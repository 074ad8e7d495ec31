use Rattle.std.proofs.Common.{◌≡◌, ◌≤◌, ◌-◌, length}
use Rattle.packed_state.specs.Packed.{bits_of}
use Rattle.symmetries.specs.SwappedPlaces.{with_swapped}
use Rattle.symmetries.specs.Runs.{pairs_from, pairs_in}
use Rattle.symmetries.proofs.runs.exchange_run.Given as goal

-- the bits of the pairs from this place on still have to change places
abbrev pub invariant-places : goal.invariant-places
invariant-places l = record {
  within : l.from ≤ 64;
  left : with_swapped (pairs_from l.run l.from (64 - l.from)) (bits_of l.state) ≡ with_swapped (pairs_in l.run) (bits_of l.initial.state);
  wide : length (bits_of l.state) ≡ length (bits_of l.initial.state);
}

abbrev pub decreases-places : goal.decreases-places
decreases-places l = 64 - l.from
