use Rattle.std.proofs.Common.{◌≡◌, drop, length, map}
use Rattle.std.specs.Prelude.{nat_le}
use Rattle.table_rows.specs.Tables.{table_of}
use Rattle.certificate_definitions.specs.Certificates.{rows_of}
use Rattle.certificate.proofs.limits.are_few_rows.Given as goal

-- the remaining rows decide, by the remaining room
abbrev pub invariant-loop-table : goal.invariant-loop-table
invariant-loop-table l = nat_le (length (rows_of (map table_of l.tables))) 4194304 ≡ nat_le (length (rows_of (map table_of (drop l.table-index l.tables)))) l.room
