pub mod Devices
pub mod Texts
pub mod Written
pub mod Progress
