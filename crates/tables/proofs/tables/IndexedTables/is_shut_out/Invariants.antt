use Rattle.std.proofs.Common.{◌≡◌, false, map, take}
use Rattle.grounding.specs.Views.{numbered_of}
use Rattle.lower_bounds.specs.FairTables.{is_shut_out}
use Rattle.tables.specs.AllTables.{tables_of}
use Rattle.tables.proofs.tables.IndexedTables.is_shut_out.Given as goal

abbrev pub invariant-loop-table : goal.invariant-loop-table
invariant-loop-table l = is_shut_out (map numbered_of l.literals) (take l.table (tables_of l.self)) ≡ false
