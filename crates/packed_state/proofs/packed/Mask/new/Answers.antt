use Rattle.packed_state.specs.Packed.{mask_bits_of}
use Rattle.packed_state.proofs.packed.Mask.new.Goals as goal

pub returns : goal.returns
unfolding mask_bits_of
returns c = c.in_ok-set.ensures
