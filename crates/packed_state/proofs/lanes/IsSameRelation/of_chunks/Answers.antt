use Rattle.std.proofs.Common.{◌∙◌, sym}
use Rattle.packed_state.proofs.LaneLemmas.{same_lanes}
use Rattle.packed_state.proofs.lanes.IsSameRelation.of_chunks.Goals as goal

pub returns : goal.returns
returns c = same_lanes c.args.words c.args.others (c.requires.0 ∙ sym c.requires.1)
