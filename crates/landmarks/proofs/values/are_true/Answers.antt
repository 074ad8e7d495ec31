use Rattle.std.proofs.Common.{length}
use Rattle.packed_state.specs.Packed.{bits_of}
use Rattle.landmarks.proofs.ValueLemmas.{number-below}
use Rattle.landmarks.proofs.values.are_true.Goals as goal

pub has-requires : goal.has-requires
has-requires c = number-below (length (bits_of c.args.state.now)) c.args.numbers.now c.loop-number.number-index c.requires c.loop-number-test.true
