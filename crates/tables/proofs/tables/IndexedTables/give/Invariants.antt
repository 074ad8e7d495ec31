use Rattle.std.proofs.Common.{◌≡◌, ◌*◌, map, take, pos, neg_ℤ, ◌≤ℤ◌}
use Rattle.grounding.specs.Views.{numbered_of}
use Rattle.lower_bounds.specs.TableFunctions.{sum_over}
use Rattle.lower_bounds.specs.FairTables.{table_gives}
use Rattle.tables.specs.AllTables.{tables_of}
use Rattle.tables.proofs.tables.IndexedTables.give.Given as goal

abbrev pub invariant-loop-table : goal.invariant-loop-table
invariant-loop-table l = record {
  is : l.total ≡ sum_over (take l.table (tables_of l.self)) (table_gives l.place (map numbered_of l.literals));
  least : neg_ℤ (pos (4294967294 * l.table)) ≤ℤ l.total;
  most : l.total ≤ℤ pos (4294967294 * l.table);
}
