use Rattle.std.proofs.Common.{◌≡◌}
use Rattle.table_rows.proofs.ColumnLemmas.{AreBelow}
use Rattle.table_rows.proofs.columns.fill.Given as goal

abbrev pub invariant-loop-place : goal.invariant-loop-place
invariant-loop-place l = AreBelow (λ place old new. new ≡ l.number) l.place l.initial.most l.most
