pub mod LeanLemmas
pub mod OrderLemmas
pub mod Described
pub mod ExampleProofs
