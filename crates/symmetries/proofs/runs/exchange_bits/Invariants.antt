use Rattle.std.proofs.Common.{◌≡◌, length, drop}
use Rattle.packed_state.specs.Packed.{bits_of}
use Rattle.symmetries.specs.SwappedPlaces.{with_swapped}
use Rattle.symmetries.specs.Runs.{pairs_in_all}
use Rattle.symmetries.proofs.runs.exchange_bits.Given as goal

-- the bits of the pairs in the runs that are left still have to change places
abbrev pub invariant-loop-run : goal.invariant-loop-run
invariant-loop-run l = record {
  left : with_swapped (pairs_in_all (drop l.run-index l.runs)) (bits_of l.state) ≡ with_swapped (pairs_in_all l.runs) (bits_of l.initial.state);
  wide : length (bits_of l.state) ≡ length (bits_of l.initial.state);
}
