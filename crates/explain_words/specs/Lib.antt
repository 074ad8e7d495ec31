pub mod Expected
pub mod Verdict
