pub mod Filling
pub mod Readings
pub mod WrittenFiles
pub mod ProgressLemmas
