use Rattle.std.proofs.Common.{◌≡◌}
use Rattle.formulas.specs.Marks.{is_marked}
use Rattle.explain_tasks.specs.Unused.{without}
use Rattle.explain_tasks.proofs.tables.unmarked.Given as goal

-- the unmarked numbers so far
abbrev pub invariant-loop-number : goal.invariant-loop-number
invariant-loop-number l = l.found.items ≡ without (is_marked l.table) l.number
