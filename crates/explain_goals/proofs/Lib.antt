pub mod Invariants
pub mod AddedLemmas
pub mod GrownLemmas
pub mod SettledLemmas
pub mod NeedLemmas
pub mod ChainLemmas
pub mod MutexLemmas
