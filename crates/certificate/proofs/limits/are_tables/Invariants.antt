use Rattle.std.proofs.Common.{◌≡◌, drop, map}
use Rattle.table_rows.specs.Tables.{table_of}
use Rattle.certificate_definitions.specs.Certificates.{are_tables}
use Rattle.certificate_reader.specs.Lines.{version_of}
use Rattle.certificate.proofs.limits.are_tables.Given as goal

-- the remaining tables decide
abbrev pub invariant-loop-table : goal.invariant-loop-table
invariant-loop-table l =
    are_tables (version_of l.version) l.atom_count l.weight_count (map table_of l.tables) ≡ are_tables (version_of l.version) l.atom_count l.weight_count (map table_of (drop l.table-index l.tables))
