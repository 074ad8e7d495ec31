use Rattle.std.proofs.Common.{◌≡◌, ◌+◌, drop, length, map}
use Rattle.table_rows.specs.Tables.{table_of}
use Rattle.certificate_definitions.specs.Certificates.{rows_of}
use Rattle.certificate.proofs.limits.row_count.Given as goal

-- this many so far, and the remaining ones
abbrev pub invariant-loop-table : goal.invariant-loop-table
invariant-loop-table l = length (rows_of (map table_of l.tables)) ≡ l.count + length (rows_of (map table_of (drop l.table-index l.tables)))
