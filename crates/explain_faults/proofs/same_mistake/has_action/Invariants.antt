use Rattle.std.proofs.Common.{◌≢◌, codes, ℕ, ◌+◌, ◌<◌}
use Rattle.std.specs.Prelude.{slice_range}
use Rattle.explain_faults.specs.SameMistake.{lower}
use Rattle.explain_faults.proofs.same_mistake.has_action.Given as goal

abbrev pub invariant-loop-start : goal.invariant-loop-start
invariant-loop-start l = (k : ℕ) → k < l.start → lower (slice_range l.piece k (k + 7)) ≢ codes ":action"
