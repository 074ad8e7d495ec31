use Rattle.std.proofs.Common.{ℕ, ◌<◌, get_or, []}
use Rattle.packed_state.specs.Lanes.{Pairwise}
use Rattle.packed_state.proofs.lanes.all.Given as goal

abbrev pub invariant-chunks : goal.invariant-chunks
invariant-chunks g l = (k : ℕ) → k < l.place → Pairwise g.R.Relation.holds (get_or l.chunks k []) (get_or l.other_chunks k [])
