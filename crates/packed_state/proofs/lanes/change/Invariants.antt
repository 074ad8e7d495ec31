use Rattle.std.proofs.Common.{◌*◌}
use Rattle.packed_state.proofs.LaneLemmas.{IsChangedTo}
use Rattle.packed_state.proofs.lanes.change.Given as goal

abbrev pub invariant-chunks : goal.invariant-chunks
invariant-chunks l = IsChangedTo (8 * l.place) l.fn.words l.deletes l.adds l.words

abbrev pub invariant-rest : goal.invariant-rest
invariant-rest l = IsChangedTo l.place l.fn.words l.deletes l.adds l.words
