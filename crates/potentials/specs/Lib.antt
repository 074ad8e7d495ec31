pub mod Potentials
pub mod Fairness
pub mod Said
pub mod Goals
pub mod Swing
pub mod Words
