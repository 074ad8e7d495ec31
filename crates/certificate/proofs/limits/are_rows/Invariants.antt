use Rattle.std.proofs.Common.{◌≡◌, drop}
use Rattle.std.specs.List.{list_all}
use Rattle.table_rows.specs.Tables.{table_of}
use Rattle.certificate_definitions.specs.Certificates.{is_row}
use Rattle.certificate.proofs.limits.are_rows.Given as goal

-- the remaining rows decide
abbrev pub invariant-loop-row : goal.invariant-loop-row
invariant-loop-row l =
    list_all (is_row l.atom_count l.weight_count (table_of l.table).scope) (table_of l.table).rows
    ≡ list_all (is_row l.atom_count l.weight_count (table_of l.table).scope) (drop l.row (table_of l.table).rows)
