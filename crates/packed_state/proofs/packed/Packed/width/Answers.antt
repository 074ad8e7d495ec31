use Rattle.std.proofs.Common.{sym}
use Rattle.packed_state.specs.Packed.{bits_of}
use Rattle.packed_state.proofs.PackedLemmas.{length-bits}
use Rattle.packed_state.proofs.packed.Packed.width.Goals as goal

pub returns : goal.returns
unfolding bits_of
returns c = sym (length-bits c.args.self.now.width c.args.self.now.words.items)
