use Rattle.std.proofs.Common.{◌≡◌, length}
use Rattle.table_rows.specs.Rows.{are_rising}
use Rattle.tables_drafted.proofs.written.is_rising.Given as goal

-- the remaining numbers decide
abbrev pub invariant-loop-left : goal.invariant-loop-left
invariant-loop-left l = are_rising l.left ≡ are_rising l.numbers

abbrev pub decreases-loop-left : goal.decreases-loop-left
decreases-loop-left l = length l.left
