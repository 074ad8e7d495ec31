use Rattle.std.proofs.Common.{refl}
use Rattle.packed_state.specs.Table.{tag_in}
use Rattle.packed_state.proofs.table.entry_tag.Goals as goal

pub returns : goal.returns
unfolding tag_in
returns c = refl
