pub mod Rows
pub mod Landmarks
pub mod Limits
