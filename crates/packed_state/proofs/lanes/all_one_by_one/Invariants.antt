use Rattle.std.proofs.Common.{ℕ, ◌<◌, get_or}
use Rattle.packed_state.proofs.lanes.all_one_by_one.Given as goal

abbrev pub invariant-words : goal.invariant-words
invariant-words g l = (k : ℕ) → k < l.place → g.R.Relation.holds (get_or l.words k 0) (get_or l.others k 0)
