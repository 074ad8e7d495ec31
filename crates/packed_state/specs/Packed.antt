-- Packed sets as contracts see them: a Bool for each number below the width.
use Rattle.std.specs.Prelude.{Bool, List}
use Rattle.packed_state.specs.declared.packed.Packed.{Packed}
use Rattle.packed_state.specs.declared.packed.Mask.{Mask}
use Rattle.packed_state.specs.Words.{bits_in}

unfoldable pub bits_of : Packed → List Bool
bits_of packed = bits_in packed.width packed.words.items

unfoldable pub mask_bits_of : Mask → List Bool
mask_bits_of mask = bits_of mask.set
