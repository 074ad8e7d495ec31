-- The code's certificate, in the model's terms.
use Rattle.std.specs.Prelude.{List}
use Rattle.packed_state.specs.declared.pooled.PooledStore.{PooledStore}
use Rattle.table_rows.specs.declared.table.Table.{Table}
use Rattle.certificate_definitions.specs.Certificates.{Certificate}
use Rattle.certificate.specs.declared.cert.Cert.{Cert}
use Rattle.certificate.specs.CertificateParts.{certificate_with}

abbrev pub certificate_of : Cert → Certificate
certificate_of cert = certificate_with cert.header cert.states

-- the sets of its states, with their width
abbrev pub store_in : Cert → PooledStore
store_in cert = cert.states.sets

-- its tables in memory
abbrev pub tables_in : Cert → List Table
tables_in cert = cert.header.evidence.tables.items
