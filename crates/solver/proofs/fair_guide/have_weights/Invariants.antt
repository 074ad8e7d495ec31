use Rattle.std.proofs.Common.{◌≡◌, drop}
use Rattle.std.specs.Prelude.{◌==◌}
use Rattle.std.specs.List.{list_all}
use Rattle.table_rows.specs.declared.table.Table.{Table}
use Rattle.table_rows.specs.Tables.{weight_count_of}
use Rattle.solver.proofs.fair_guide.have_weights.Given as goal

-- the tables that are left decide
abbrev pub invariant-loop-table : goal.invariant-loop-table
invariant-loop-table l = list_all (λ (t : Table). weight_count_of t == l.count) l.tables ≡ list_all (λ (t : Table). weight_count_of t == l.count) (drop l.table-index l.tables)
