use Rattle.std.proofs.Common.{◌≡◌, take}
use Rattle.packed_state.specs.Sets.{set_of}
use Rattle.packed_state.specs.Packed.{bits_of}
use Rattle.packed_state.proofs.packed.Packed.new.Given as goal

abbrev pub invariant-loop-number : goal.invariant-loop-number
invariant-loop-number l = bits_of l.set ≡ set_of l.width (take l.number-index l.numbers)
