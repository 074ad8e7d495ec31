pub mod Looks
pub mod Machine
