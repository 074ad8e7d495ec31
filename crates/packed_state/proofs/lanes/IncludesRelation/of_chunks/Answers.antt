use Rattle.std.proofs.Common.{◌∙◌, sym}
use Rattle.packed_state.proofs.LaneLemmas.{within_lanes}
use Rattle.packed_state.proofs.lanes.IncludesRelation.of_chunks.Goals as goal

pub returns : goal.returns
returns c = within_lanes c.args.others c.args.words (c.requires.1 ∙ sym c.requires.0)
