pub mod Followed
pub mod Reported
