pub mod IncidenceLemmas
