use Rattle.tables.proofs.RowSumsLemmas.{AreTakenBelow}
use Rattle.tables.proofs.row_sums.take_each.Given as goal

abbrev pub invariant-loop-place : goal.invariant-loop-place
invariant-loop-place l = AreTakenBelow l.initial.totals.items l.weights l.place l.totals.items
