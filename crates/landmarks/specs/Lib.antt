pub mod Breaking
pub mod Values
pub mod Makers
pub mod Counters
pub mod CutIndex
pub mod Fairness
pub mod Laws
