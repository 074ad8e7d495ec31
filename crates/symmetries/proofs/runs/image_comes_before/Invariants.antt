use Rattle.std.proofs.Common.{◌≡◌, drop}
use Rattle.packed_state.specs.Packed.{bits_of}
use Rattle.packed_state.specs.Sets.{has}
use Rattle.symmetries.specs.SwappedPlaces.{is_earlier}
use Rattle.symmetries.specs.Runs.{pairs_in_all}
use Rattle.symmetries.proofs.runs.image_comes_before.Given as goal

-- the runs that are left decide
abbrev pub invariant-loop-run : goal.invariant-loop-run
invariant-loop-run l = is_earlier (pairs_in_all (drop l.run-index l.runs)) (has (bits_of l.state)) ≡ is_earlier (pairs_in_all l.runs) (has (bits_of l.state))
