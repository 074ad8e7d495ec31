use Rattle.std.proofs.Common.{◌≡◌, map, take}
use Rattle.symmetries.specs.NumberPairs.{swap_in}
use Rattle.symmetries.specs.Runs.{swaps_in_runs}
use Rattle.symmetries.proofs.runs.runs_of_all.Given as goal

-- those of the exchanges so far are
abbrev pub invariant-loop-swap : goal.invariant-loop-swap
invariant-loop-swap l = swaps_in_runs l.all.items ≡ map swap_in (take l.swap-index l.swaps)
