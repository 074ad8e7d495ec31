use Rattle.table_rows.specs.Columns.{IsSettled}
use Rattle.table_rows.proofs.ColumnLemmas.{AreBelow}
use Rattle.table_rows.proofs.columns.settle.Given as goal

abbrev pub invariant-loop-place : goal.invariant-loop-place
invariant-loop-place l = AreBelow (λ place old new. IsSettled old new) l.place l.initial.most l.most
