use Rattle.std.proofs.Common.{◌+◌, ◌*◌, ap}
use Rattle.packed_state.specs.Table.{entry_of}
use Rattle.packed_state.proofs.table.entry.Goals as goal

pub returns : goal.returns
unfolding entry_of
returns c = ap (λ tag. tag * 16777216 + c.args.number + 1) c.tag.ensures.tag
