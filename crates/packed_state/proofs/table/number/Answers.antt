use Rattle.std.proofs.Common.{refl}
use Rattle.packed_state.specs.Table.{number_of}
use Rattle.packed_state.proofs.table.number.Goals as goal

pub returns : goal.returns
unfolding number_of
returns c = refl
