pub mod RowLemmas
pub mod ZoneLemmas
pub mod LimitsLemmas
