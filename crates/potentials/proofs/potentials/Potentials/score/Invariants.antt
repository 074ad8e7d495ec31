use Rattle.std.proofs.Common.{◌≡◌, ◌*◌, ◌+ℤ◌}
use Rattle.packed_state.specs.Packed.{bits_of}
use Rattle.lower_bounds.specs.PotentialFunctions.{sum_below, given}
use Rattle.potentials.proofs.potentials.Potentials.score.Given as goal

abbrev pub invariant-words : goal.invariant-words
invariant-words l = l.total ≡ (l.self.constant +ℤ sum_below (64 * l.place) (given l.self.weights.items (bits_of l.state)))
