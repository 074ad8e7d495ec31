pub mod Failures
pub mod Solution
pub mod Asked
pub mod Program
pub mod Progress
