use Rattle.std.proofs.Common.{◌≡◌, ℕ, ◌+◌, ◌-◌, length}
use Rattle.formulas.specs.Marks.{is_marked}
use Rattle.formulas.proofs.marks.mark.Given as goal

-- only unmarked numbers are added to the table
abbrev pub invariant-loop-table : goal.invariant-loop-table
invariant-loop-table l = (n : ℕ) → is_marked l.table.items n ≡ is_marked l.initial.table.items n

abbrev pub decreases-loop-table : goal.decreases-loop-table
decreases-loop-table l = l.number + 1 - length l.table.items
