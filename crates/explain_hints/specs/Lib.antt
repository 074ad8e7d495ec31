pub mod Files
pub mod Places
pub mod ReportedBytes
pub mod Refusals
