use Rattle.std.proofs.Common.{◌≡◌, length}
use Rattle.packed_state.specs.Packed.{bits_of}
use Rattle.search_spaces.specs.GroundListing.{listed_width}
use Rattle.solver.proofs.stopped.Stopped.samples.Given as goal

-- the set is as wide as the states
abbrev pub invariant-loop-place : goal.invariant-loop-place
invariant-loop-place l = length (bits_of l.set) ≡ listed_width l.self.listing.now
