use Rattle.tables.proofs.RowSumsLemmas.{AreAddedBelow}
use Rattle.tables.proofs.row_sums.add_each.Given as goal

abbrev pub invariant-loop-place : goal.invariant-loop-place
invariant-loop-place l = AreAddedBelow l.initial.totals.items l.weights l.place l.totals.items
