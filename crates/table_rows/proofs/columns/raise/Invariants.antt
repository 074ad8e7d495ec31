use Rattle.table_rows.proofs.ColumnLemmas.{AreBelow, IsGreater}
use Rattle.table_rows.proofs.columns.raise.Given as goal

abbrev pub invariant-loop-place : goal.invariant-loop-place
invariant-loop-place l = AreBelow (IsGreater l.from l.to) l.place l.initial.most l.most
