use Rattle.std.proofs.Common.{refl}
use Rattle.packed_state.specs.Table.{tag_of}
use Rattle.packed_state.proofs.table.tag.Goals as goal

pub returns-clause-tag : goal.returns-clause-tag
unfolding tag_of
returns-clause-tag c = refl
