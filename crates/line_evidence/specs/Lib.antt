pub mod Roles
pub mod Shown
